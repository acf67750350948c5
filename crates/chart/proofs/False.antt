-- Known false charts: one for each part of each clause of "A chart is true when ..", breaking that part and no other. None of them is true: each stands beside the reason, which is that clause.
-- This is what the file is for: the rest of the crate produces `True`, for our charts or, closing up, from `True` itself, so a clause that asked for less could still be proved there; it is refused here.
use mathlib.Core.Path.{refl}
use mathlib.Core.Logic.{inl, inr}
use mathlib.Core.List.{List, [], ◌∷◌}
use Prim.Native.Nat.{ℕ}
use native.Mathlib.Omega.{arith}
use lib.ListN.{get_or}
use Rattle.polygon.specs.Polygon.{◌—◌}
use Rattle.lists.proofs.Lists.{here, there}
use Rattle.chart.specs.Chart.{Stroke, upright, level, Chart, True}
use Rattle.chart.specs.Decode.{bar_on}

-- a chart by its rows, columns and corners, its strokes, and for each corner the row, left and right column of its bar
abbrev pub made : ℕ → ℕ → ℕ → List (ℕ × ℕ × ℕ) → List Stroke → Chart
made h w k bs ss = record { rows = h; columns = w; n = k; bar = λ x. let b = get_or bs x (0, 0, 0) in bar_on b.0 b.1 b.2; strokes = ss }

-- a chart that is not true, with why
abbrev pub FalseChart : Type 0
FalseChart = (c : Chart) × (¬ True c)

pub false_charts : List FalseChart
false_charts =
    -- "each bar's left column is at most its right": 1 and 0
    (made 1 2 1 ((0, 1, 0) ∷ []) [], λ t. omega (arith, (t.bars 0 (omega arith)).0))
    -- "bars lie within rows and columns": column 1 of 1, row 1 of 1
    ∷ (made 1 1 1 ((0, 0, 1) ∷ []) [], λ t. omega (arith, (t.bars 0 (omega arith)).1))
    ∷ (made 1 1 1 ((1, 0, 0) ∷ []) [], λ t. omega (arith, (t.bars 0 (omega arith)).2))
    -- "without sharing a cell": both have column 1 of row 0
    ∷ (
      made 1 2 2 ((0, 0, 1) ∷ (0, 1, 1) ∷ []) [],
      λ t. elim (t.apart 0 1 (omega arith) (omega arith) (λ e. omega arith) refl) [ inl h ↦ omega arith | inr h ↦ omega arith ],
    )
    -- "a level stroke joins bars": its first corner, its second corner is none of the chart
    ∷ (made 1 2 1 ((0, 0, 0) ∷ (0, 1, 1) ∷ []) (level (1 — 0) ∷ []), λ t. omega (arith, (t.levels (1 — 0) here).0))
    ∷ (made 1 2 1 ((0, 0, 0) ∷ (0, 1, 1) ∷ []) (level (0 — 1) ∷ []), λ t. omega (arith, (t.levels (0 — 1) here).1))
    -- "of one row": rows 0 and 1
    ∷ (made 2 2 2 ((0, 0, 0) ∷ (1, 1, 1) ∷ []) (level (0 — 1) ∷ []), λ t. omega (arith, (t.levels (0 — 1) here).2))
    -- "with no bar between": corner 1 between 0 and 2, and so between 2 and 0
    ∷ (
      made 1 3 3 ((0, 0, 0) ∷ (0, 1, 1) ∷ (0, 2, 2) ∷ []) (level (0 — 2) ∷ []),
      λ t. (t.levels (0 — 2) here).3 1 1 (omega arith) refl (omega arith) (inl (omega arith)),
    )
    ∷ (
      made 1 3 3 ((0, 2, 2) ∷ (0, 1, 1) ∷ (0, 0, 0) ∷ []) (level (0 — 2) ∷ []),
      λ t. (t.levels (0 — 2) here).3 1 1 (omega arith) refl (omega arith) (inr (omega arith)),
    )
    -- "an upright's column lies in both bars": its first corner, its second corner is none of the chart
    ∷ (made 2 1 1 ((0, 0, 0) ∷ (1, 0, 0) ∷ []) (upright (1 — 0) 0 ∷ []), λ t. omega (arith, (t.uprights (1 — 0) 0 here).0))
    ∷ (made 2 1 1 ((0, 0, 0) ∷ (1, 0, 0) ∷ []) (upright (0 — 1) 0 ∷ []), λ t. omega (arith, (t.uprights (0 — 1) 0 here).1))
    -- it lies left of the first bar, right of the first, left of the second, right of the second
    ∷ (made 2 2 2 ((0, 1, 1) ∷ (1, 0, 1) ∷ []) (upright (0 — 1) 0 ∷ []), λ t. omega (arith, (t.uprights (0 — 1) 0 here).2.0))
    ∷ (made 2 2 2 ((0, 0, 0) ∷ (1, 0, 1) ∷ []) (upright (0 — 1) 1 ∷ []), λ t. omega (arith, (t.uprights (0 — 1) 1 here).2.1))
    ∷ (made 2 2 2 ((0, 0, 1) ∷ (1, 1, 1) ∷ []) (upright (0 — 1) 0 ∷ []), λ t. omega (arith, (t.uprights (0 — 1) 0 here).3.0))
    ∷ (made 2 2 2 ((0, 0, 1) ∷ (1, 0, 0) ∷ []) (upright (0 — 1) 1 ∷ []), λ t. omega (arith, (t.uprights (0 — 1) 1 here).3.1))
    -- "on different rows": from a bar to itself
    ∷ (made 1 1 1 ((0, 0, 0) ∷ []) (upright (0 — 0) 0 ∷ []), λ t. (t.uprights (0 — 0) 0 here).4 refl)
    -- "with no bar between": corner 2 between 0 and 1, and so between 1 and 0
    ∷ (
      made 3 1 3 ((0, 0, 0) ∷ (2, 0, 0) ∷ (1, 0, 0) ∷ []) (upright (0 — 1) 0 ∷ []),
      λ t. (t.uprights (0 — 1) 0 here).5 2 (omega arith) (omega arith) (inl (omega arith)),
    )
    ∷ (
      made 3 1 3 ((2, 0, 0) ∷ (0, 0, 0) ∷ (1, 0, 0) ∷ []) (upright (0 — 1) 0 ∷ []),
      λ t. (t.uprights (0 — 1) 0 here).5 2 (omega arith) (omega arith) (inr (omega arith)),
    )
    -- "no upright passes through the gap of a level stroke": column 1 of row 1, with corner 0 left of 1 and 2 above 3, and then the other way round
    ∷ (
      made 3 3 4 ((1, 0, 0) ∷ (1, 2, 2) ∷ (0, 1, 1) ∷ (2, 1, 1) ∷ []) (level (0 — 1) ∷ upright (2 — 3) 1 ∷ []),
      λ t. t.clear (2 — 3) (0 — 1) 1 (there here) here (inl (omega arith)) (inl (omega arith)),
    )
    ∷ (
      made 3 3 4 ((1, 2, 2) ∷ (1, 0, 0) ∷ (2, 1, 1) ∷ (0, 1, 1) ∷ []) (level (0 — 1) ∷ upright (2 — 3) 1 ∷ []),
      λ t. t.clear (2 — 3) (0 — 1) 1 (there here) here (inr (omega arith)) (inr (omega arith)),
    )
    ∷ []
