-- The loop's invariant: the gaps of the strokes before the place are put, and `any` says whether one has a cell.
use mathlib.Core.Bool.{false}
use mathlib.Core.Path.{◌≡◌}
use Prim.Native.Nat.{ℕ, ◌<◌}
use lib.ListN.{get_or}
use Rattle.chart.specs.Decode.{stroke_at, chart_in}
use Rattle.nearest.specs.declared.Cell.{Cell}
use Rattle.nearest.specs.Order.{firsts, lasts}
use Rattle.chart_reader.specs.Gaps.{InGap, GapsIn}
use Rattle.chart_reader.proofs.gaps.put_gaps.Given as goal

abbrev pub invariant-loop-place : goal.invariant-loop-place
invariant-loop-place l = (firsts l.gaps ≡ firsts l.initial.gaps) × GapsIn (chart_in l.strokes.chart.now) (λ k. stroke_at l.strokes.chart.now (get_or l.strokes.at.now k 0)) l.place-index (firsts l.spans) (lasts l.spans) (lasts l.gaps) × (l.any ≡ false → (k : ℕ) → k < l.place-index → (d : Cell) → InGap (chart_in l.strokes.chart.now) (stroke_at l.strokes.chart.now (get_or l.strokes.at.now k 0)) d → ⊥)
