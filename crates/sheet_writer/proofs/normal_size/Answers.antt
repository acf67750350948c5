-- By the test.
use native.Mathlib.Omega.{arith}
use Rattle.sheet_writer.proofs.normal_size.Goals as goal

pub returns-then-h : goal.returns-then-h
returns-then-h c = rw c.if-h.true (omega arith)

pub returns-else-h : goal.returns-else-h
returns-else-h c = rw c.if-h.false (omega arith)
