-- The loop's invariant: the strokes of the edges so far are stored, up to `at`.
use Rattle.std.proofs.Common.{◌≡◌, ◌+◌, length}
use Rattle.std.proofs.lemmas.List.Edits.{sets}
use Rattle.chart_writer.specs.Tables.{stroke_run}
use Rattle.chart_writer.proofs.bytes.put_strokes.Given as goal

abbrev pub invariant-loop-k : goal.invariant-loop-k
invariant-loop-k l =
    (l.at ≡ l.from + length (stroke_run l.tree l.stands (length l.yielded)))
    × (l.out ≡ sets l.initial.out l.from (stroke_run l.tree l.stands (length l.yielded)))
