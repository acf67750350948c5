-- By the two tests.
use mathlib.Core.Path.{sym}
use native.Mathlib.Omega.{arith}
use Rattle.edit.proofs.Marking.{neighbours_first, neighbours_last, neighbours_inside}
use Rattle.edit.proofs.near.neighbours.Goals as goal

pub returns-then-k-eq0 : goal.returns-then-k-eq0
returns-then-k-eq0 c = (sym (neighbours_first c.args.n c.args.k c.if-k-eq0.true), omega arith, omega arith)

pub returns-then-k-n : goal.returns-then-k-n
returns-then-k-n c = (sym (neighbours_last c.args.n c.args.k c.if-k-eq0.false c.if-k-n.true), omega arith, omega arith)

pub returns-else-k-n : goal.returns-else-k-n
returns-else-k-n c = (sym (neighbours_inside c.args.n c.args.k c.if-k-eq0.false c.if-k-n.false), omega arith, omega arith)
