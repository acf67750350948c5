-- Known charts, and what reading each gives: one list with one proof over it.
use mathlib.Core.Path.{◌≡◌, refl}
use mathlib.Core.List.{List, [], ◌∷◌, ◌++◌, map, flat_map}
use mathlib.Core.Logic.Dec
use Prim.Native.Nat.{ℕ}
use native.Mathlib.Decide.{dec_le, dec_lt, ℕ_discrete}
use lib.ListN.{length, get_or, take}
use Rattle.lists.specs.Lists.{all?, below, choose, either?, keep, mem?, not?, numbers, put, sorted?, recast?, three?}
use Rattle.polygon.specs.Angles.{none}
use Rattle.polygon.specs.Polygon.{◌—◌}
use Rattle.polygon.specs.Order.{before?, same?, cross?, none_cross?, diagonal?}
use Rattle.sheet.specs.Sheet.{Reading, refused, held, ask, count?}
use Rattle.chart.specs.Chart.{Bar, Stroke, upright, level, stroke_edge, bars_of}
use Rattle.chart.specs.Bytes.{bar_bytes, stroke_bytes, bytes_of}
use Rattle.chart.specs.Decode.{bar_on, shaped, places, behind}
use Rattle.nearest.specs.Areas.{common?, common_of, between, shares?}
use Rattle.nearest.proofs.Areas.{stands?, crosses?}
use Rattle.chart_reader.specs.Formed.{formed?}
use Rattle.chart_reader.specs.Rules.{part_sides}
use Rattle.chart_reader.specs.Reader.{bars?, free?, joins?, strokes?, passes?, gaps?, part?, read_chart}

-- the bytes of the triangle's chart in document 01
abbrev pub triangle : List ℕ
triangle =
    0 ∷ 3 ∷ 0 ∷ 2 ∷ 0 ∷ 3 ∷
    0 ∷ 0 ∷ 0 ∷ 0 ∷ 0 ∷ 0 ∷ 0 ∷ 2 ∷ 0 ∷ 0 ∷ 0 ∷ 1 ∷ 0 ∷ 0 ∷ 0 ∷ 1 ∷ 0 ∷ 1 ∷
    1 ∷ 0 ∷ 0 ∷ 0 ∷ 1 ∷ 0 ∷ 0 ∷ 0 ∷ 0 ∷ 0 ∷ 0 ∷ 2 ∷ 1 ∷ 0 ∷ 1 ∷ 0 ∷ 2 ∷ 0 ∷ 1 ∷ []

-- the bytes of a chart of these rows, columns, bars and strokes
unfoldable pub drawn : ℕ → ℕ → List Bar → List Stroke → List ℕ
drawn r k bs ss = bytes_of (record { rows = r; columns = k; n = length bs; bar = λ x. get_or bs x (bar_on 0 0 0); strokes = ss })

-- the chart of n = 4, (0,2): its bars and its strokes
abbrev pub square_bars : List Bar
square_bars = bar_on 0 0 1 ∷ bar_on 2 0 0 ∷ bar_on 2 1 2 ∷ bar_on 0 2 2 ∷ []

abbrev pub square_strokes : List Stroke
square_strokes = upright (0 — 1) 0 ∷ upright (0 — 2) 1 ∷ level (0 — 3) ∷ level (1 — 2) ∷ upright (2 — 3) 2 ∷ []

-- a chart and what reading it gives
abbrev pub Case : Type 0
Case = List ℕ × Reading

abbrev pub known : List Case
known =
    (triangle, held (record { n = 3; ds = []; angles = none }))
    ∷ (drawn 3 3 square_bars square_strokes, held (record { n = 4; ds = (0 — 2) ∷ []; angles = none }))
    -- empty; a byte short; a byte over; bit 1 of a map byte; n = 2; a stroke short
    ∷ ([], refused 14)
    ∷ (take 42 triangle, refused 14)
    ∷ (triangle ++ (0 ∷ []), refused 14)
    ∷ (take 24 triangle ++ (3 ∷ 0 ∷ 0 ∷ 0 ∷ 1 ∷ 0 ∷ 0 ∷ 0 ∷ 0 ∷ 0 ∷ 0 ∷ 2 ∷ 1 ∷ 0 ∷ 1 ∷ 0 ∷ 2 ∷ 0 ∷ 1 ∷ []), refused 14)
    ∷ (drawn 3 2 (bar_on 0 0 0 ∷ bar_on 0 1 1 ∷ []) (level (0 — 1) ∷ []), refused 14)
    ∷ (drawn 3 3 square_bars (take 4 square_strokes), refused 14)
    -- left over right; past the columns; past the rows; two bars share a cell
    ∷ (drawn 3 3 (bar_on 0 1 0 ∷ bar_on 2 0 0 ∷ bar_on 2 1 2 ∷ bar_on 0 2 2 ∷ []) square_strokes, refused 15)
    ∷ (drawn 3 2 square_bars square_strokes, refused 15)
    ∷ (drawn 2 3 square_bars square_strokes, refused 15)
    ∷ (drawn 3 3 (bar_on 0 0 2 ∷ bar_on 2 0 0 ∷ bar_on 2 1 2 ∷ bar_on 0 2 2 ∷ []) square_strokes, refused 15)
    -- corner 4 of four; a repeated stroke; level between two rows; upright on one row; its column not in both bars; a bar between, in a column and on a row
    ∷ (drawn 3 3 square_bars (upright (0 — 1) 0 ∷ upright (0 — 2) 1 ∷ level (0 — 3) ∷ level (1 — 2) ∷ upright (2 — 4) 2 ∷ []), refused 16)
    ∷ (drawn 3 3 square_bars (upright (0 — 1) 0 ∷ upright (0 — 1) 0 ∷ level (0 — 3) ∷ level (1 — 2) ∷ upright (2 — 3) 2 ∷ []), refused 16)
    ∷ (drawn 3 3 square_bars (level (0 — 1) ∷ upright (0 — 2) 1 ∷ level (0 — 3) ∷ level (1 — 2) ∷ upright (2 — 3) 2 ∷ []), refused 16)
    ∷ (drawn 3 3 square_bars (upright (0 — 1) 0 ∷ upright (0 — 2) 1 ∷ upright (0 — 3) 1 ∷ level (1 — 2) ∷ upright (2 — 3) 2 ∷ []), refused 16)
    ∷ (drawn 3 3 square_bars (upright (0 — 1) 1 ∷ upright (0 — 2) 1 ∷ level (0 — 3) ∷ level (1 — 2) ∷ upright (2 — 3) 2 ∷ []), refused 16)
    ∷ (drawn 3 2 (bar_on 0 0 1 ∷ bar_on 1 0 0 ∷ bar_on 2 0 1 ∷ []) (upright (0 — 1) 0 ∷ upright (0 — 2) 0 ∷ upright (1 — 2) 0 ∷ []), refused 16)
    ∷ (drawn 1 3 (bar_on 0 0 0 ∷ bar_on 0 1 1 ∷ bar_on 0 2 2 ∷ []) (level (0 — 1) ∷ level (0 — 2) ∷ level (1 — 2) ∷ []), refused 16)
    -- an upright through a level gap; past the bar at the gap's end
    ∷ (drawn 3 5 (bar_on 0 0 4 ∷ bar_on 2 0 4 ∷ bar_on 1 0 1 ∷ bar_on 1 3 4 ∷ []) (upright (0 — 1) 2 ∷ upright (0 — 2) 0 ∷ upright (0 — 3) 3 ∷ upright (1 — 2) 1 ∷ level (2 — 3) ∷ []), refused 17)
    ∷ (drawn 3 6 (bar_on 0 0 5 ∷ bar_on 2 0 5 ∷ bar_on 1 0 1 ∷ bar_on 1 3 4 ∷ []) (upright (0 — 1) 5 ∷ upright (0 — 2) 0 ∷ upright (0 — 3) 3 ∷ upright (1 — 2) 1 ∷ level (2 — 3) ∷ []), held (record { n = 4; ds = (0 — 2) ∷ []; angles = none }))
    -- side (1,2) missing; (0,2) and (1,3) cross
    ∷ (drawn 3 3 (bar_on 0 0 1 ∷ bar_on 2 0 0 ∷ bar_on 0 2 2 ∷ bar_on 2 1 2 ∷ []) (upright (0 — 1) 0 ∷ level (0 — 2) ∷ upright (0 — 3) 1 ∷ level (1 — 3) ∷ upright (2 — 3) 2 ∷ []), refused 18)
    ∷ (
      drawn 3 4 (bar_on 1 0 0 ∷ bar_on 0 0 3 ∷ bar_on 2 0 3 ∷ bar_on 1 2 2 ∷ bar_on 1 1 1 ∷ [])
          (upright (0 — 1) 0 ∷ upright (0 — 2) 0 ∷ level (0 — 4) ∷ upright (1 — 2) 3 ∷ upright (1 — 3) 2 ∷ upright (2 — 3) 2 ∷ level (3 — 4) ∷ []),
      refused 18,
    )
    -- a bar and a stroke wrong; an upright through a gap, and side (0,1) missing
    ∷ (drawn 3 2 square_bars (level (0 — 1) ∷ upright (0 — 2) 1 ∷ level (0 — 3) ∷ level (1 — 2) ∷ upright (2 — 3) 2 ∷ []), refused 15)
    ∷ (drawn 3 5 (bar_on 1 3 4 ∷ bar_on 2 0 4 ∷ bar_on 1 0 1 ∷ bar_on 0 0 4 ∷ []) (level (0 — 2) ∷ upright (0 — 3) 3 ∷ upright (1 — 2) 1 ∷ upright (1 — 3) 2 ∷ upright (2 — 3) 0 ∷ []), refused 17)
    ∷ []

-- Each known chart is read so.
pub known_read : map (λ (c : Case). read_chart c.0) known ≡ map (λ (c : Case). c.1) known
unfolding read_chart ask formed? recast? three? count? places behind shaped bars? free? joins? strokes? passes? gaps? part? part_sides common? common_of between stands? shares? crosses? drawn
    bytes_of bar_bytes stroke_bytes bars_of flat_map stroke_edge Dec.and choose put keep numbers below all? sorted? mem? not? same? before? either? none_cross? cross? diagonal? dec_le dec_lt
    ℕ_discrete
known_read = refl
