-- The loop's invariant: the size is that of the strokes before i.
use mathlib.Core.Path.{◌≡◌}
use mathlib.Core.List.{List}
use Prim.Native.Nat.{ℕ, ◌*◌, ◌≤◌}
use lib.ListN.{length}
use Rattle.chart_writer.specs.Tables.{stroke_run}
use Rattle.chart_writer.proofs.bytes.strokes_size.Given as goal

abbrev pub invariant-loop-c : goal.invariant-loop-c
invariant-loop-c l = (l.size ≤ 7 * l.c-index) × ((tr : List ℕ) → l.size ≡ length (stroke_run tr l.stands l.c-index))
