-- The loop's invariant: the rows of the corners so far are marked.
use lib.ListN.{take}
use Rattle.drawing.specs.Marks.{Marked}
use Rattle.drawing.proofs.closing.mark.Given as goal

abbrev pub invariant-loop-row : goal.invariant-loop-row
invariant-loop-row l = Marked (take l.row-index l.rows) l.marks
