-- The known parts of document 01 whose levels, umbrellas and stems it gives, by computation from their diagonals.
use mathlib.Core.Path.{◌≡◌, refl}
use mathlib.Core.Logic.Dec
use mathlib.Core.List.{[], ◌∷◌}
use Prim.Native.Nat.{ℕ}
use native.Mathlib.Decide.{dec_le, dec_lt, ℕ_discrete}
use Rattle.lists.specs.Lists.{choose}
use Rattle.polygon.specs.Angles.{none}
use Rattle.polygon.specs.Polygon.{◌—◌, Polygon}
use Rattle.polygon.specs.Tree.{tree_of, grow, far, farther, near?}
use Rattle.umbrella.specs.Plan.{fold, levels, umbrellas, stems}
use Rattle.umbrella.specs.Values.{ud}
use Rattle.umbrella.specs.Best.{best, umbrella, left_at, right_at, stem_at, over_node, plan_of}

-- levels, umbrellas and stems of the plan drawn
abbrev pub counts : Polygon → ℕ × ℕ × ℕ
counts p = (levels (plan_of p), umbrellas (plan_of p), stems (plan_of p))

abbrev pub three : Polygon
three = record { n = 3; ds = []; angles = none }

abbrev pub hexagon : Polygon
hexagon = record { n = 6; ds = (0 — 2) ∷ (0 — 4) ∷ (2 — 4) ∷ []; angles = none }

abbrev pub seven : Polygon
seven = record { n = 7; ds = (0 — 5) ∷ (1 — 3) ∷ (1 — 5) ∷ (3 — 5) ∷ []; angles = none }

pub record Known : Type 0 where
  -- "n = 3: 1 level .. levels 1 umbrellas 1 stems 0"
  pub three_counts : counts three ≡ (1, 1, 0)
  -- "n = 6, (0,2) (2,4) (0,4): 1 level, 1 stem"
  pub six_counts : counts hexagon ≡ (1, 1, 1)
  -- "n = 7, (0,5) (1,5) (1,3) (3,5): 2 levels, 2 umbrellas, no stem"
  pub seven_counts : counts seven ≡ (2, 2, 0)

pub known : Known
unfolding tree_of grow far farther near? choose Dec.and dec_le dec_lt ℕ_discrete best umbrella left_at right_at stem_at over_node ud fold
known = record { three_counts = refl; six_counts = refl; seven_counts = refl }
