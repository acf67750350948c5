-- By what the table shows of a piece that is no side.
use native.Mathlib.Omega.{arith}
use Rattle.tree.proofs.Pieces.{opened}
use Rattle.tree.proofs.open.Goals as goal

pub overflow_cast-right : goal.overflow_cast-right
overflow_cast-right c = rw c.from-e.ensures (omega (arith, opened c.requires.shown.shows c.requires.apart))
