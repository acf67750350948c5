-- The loop's invariant is `Renumbered`.
use lib.ListN.{get_or}
use Rattle.drawing.proofs.Marks.{Renumbered}
use Rattle.drawing.proofs.closing.renumber.Given as goal

abbrev pub invariant-loop-row : goal.invariant-loop-row
invariant-loop-row l = Renumbered (λ r. get_or l.numbers r 0) l.initial.rows l.rows l.row-index
