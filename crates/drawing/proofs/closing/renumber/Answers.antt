use native.Mathlib.Omega.{arith}
use Rattle.lists.proofs.Places.{at_all}
use Rattle.drawing.proofs.Marks.{row_inside}
use Rattle.drawing.proofs.closing.renumber.Goals as goal

pub bounds-numbers-from : goal.bounds-numbers-from
bounds-numbers-from c = rw c.from.ensures (row_inside c.loop-row.invariant (omega arith) c.requires.inside)

pub overflow_cast-row : goal.overflow_cast-row
overflow_cast-row c = rw c.from.ensures (omega (arith, at_all 0 c.requires.small _ (row_inside c.loop-row.invariant (omega arith) c.requires.inside)))
