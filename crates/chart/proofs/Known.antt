-- The known parts of document 01 whose bars, columns or bytes it gives, by computation from their diagonals.
use mathlib.Core.Path.{◌≡◌, refl}
use mathlib.Core.Logic.Dec
use mathlib.Core.List.{[], ◌∷◌, flat_map}
use native.Mathlib.Decide.{dec_le, dec_lt, ℕ_discrete}
use Rattle.lists.specs.Lists.{below, choose, either?, numbers}
use Rattle.polygon.specs.Angles.{none}
use Rattle.polygon.specs.Polygon.{◌—◌, Polygon}
use Rattle.polygon.specs.Order.{same?}
use Rattle.polygon.specs.Tree.{span, chords_at, tree_of, grow, far, farther, near?}
use Rattle.umbrella.specs.Plan.{fold}
use Rattle.umbrella.specs.Values.{ud}
use Rattle.umbrella.specs.Best.{plan_of, best, umbrella, left_at, right_at, stem_at, over_node}
use Rattle.umbrella.proofs.Known.{three, hexagon, seven}
use Rattle.chart.specs.Places.{cols, rows}
use Rattle.polygon.specs.Edges.{edges, edges_at, edges_past}
use Rattle.chart.specs.Chart.{bars_of, meets?, first, last, stroke, layout, chart}
use Rattle.chart.specs.Bytes.{bar_bytes, stroke_bytes, bytes_of}
use Rattle.chart.specs.Decode.{bar_on}

abbrev pub four : Polygon
four = record { n = 4; ds = (0 — 2) ∷ []; angles = none }

abbrev pub five_left : Polygon
five_left = record { n = 5; ds = (0 — 3) ∷ (1 — 3) ∷ []; angles = none }

abbrev pub five_right : Polygon
five_right = record { n = 5; ds = (1 — 3) ∷ (1 — 4) ∷ []; angles = none }

pub record Known : Type 0 where
  -- "n = 3: 1 level. Chart in hexadecimal: 0003 0002 0003; 0000 0000 0000, 0002 0000 0001, 0000 0001 0001; 01 0000 0001 0000, 00 0000 0002, 01 0001 0002 0001."
  pub three_bytes : bytes_of (chart (plan_of three)) ≡
      0 ∷ 3 ∷ 0 ∷ 2 ∷ 0 ∷ 3 ∷
      0 ∷ 0 ∷ 0 ∷ 0 ∷ 0 ∷ 0 ∷ 0 ∷ 2 ∷ 0 ∷ 0 ∷ 0 ∷ 1 ∷ 0 ∷ 0 ∷ 0 ∷ 1 ∷ 0 ∷ 1 ∷
      1 ∷ 0 ∷ 0 ∷ 0 ∷ 1 ∷ 0 ∷ 0 ∷ 0 ∷ 0 ∷ 0 ∷ 0 ∷ 2 ∷ 1 ∷ 0 ∷ 1 ∷ 0 ∷ 2 ∷ 0 ∷ 1 ∷ []
  -- "n = 4, (0,2): bars, row and columns: 0: 0, 0-1; 1: 2, 0-0; 2: 2, 1-2; 3: 0, 2-2."
  pub four_bars : bars_of (chart (plan_of four)) ≡ bar_on 0 0 1 ∷ bar_on 2 0 0 ∷ bar_on 2 1 2 ∷ bar_on 0 2 2 ∷ []
  -- "n = 5, (0,3) (1,3): stem; 0: 0, 0-3; 1: 1, 1-2; 2: 1, 0-0; 3: 2, 0-4; 4: 0, 4-4."
  pub five_left_bars : bars_of (chart (plan_of five_left)) ≡ bar_on 0 0 3 ∷ bar_on 1 1 2 ∷ bar_on 1 0 0 ∷ bar_on 2 0 4 ∷ bar_on 0 4 4 ∷ []
  -- "n = 5, (1,4) (1,3): 0: 0, 0-0; 1: 2, 0-4; 2: 1, 4-4; 3: 1, 2-3; 4: 0, 1-4."
  pub five_right_bars : bars_of (chart (plan_of five_right)) ≡ bar_on 0 0 0 ∷ bar_on 2 0 4 ∷ bar_on 1 4 4 ∷ bar_on 1 2 3 ∷ bar_on 0 1 4 ∷ []
  -- "n = 6, (0,2) (2,4) (0,4): 1 level, 1 stem, 6 columns."
  pub six_columns : (chart (plan_of hexagon)).columns ≡ 6
  -- "n = 7, (0,5) (1,5) (1,3) (3,5): 2 levels, 2 umbrellas, no stem, 7 columns."
  pub seven_columns : (chart (plan_of seven)).columns ≡ 7

pub known : Known
unfolding chart layout tree_of grow far farther near? choose either? numbers below same? span chords_at Dec.and dec_le dec_lt ℕ_discrete best umbrella left_at right_at stem_at over_node ud
    fold cols rows edges edges_at edges_past bars_of meets? first last stroke bar_bytes stroke_bytes bytes_of flat_map
known = record { three_bytes = refl; four_bars = refl; five_left_bars = refl; five_right_bars = refl; six_columns = refl; seven_columns = refl }
