-- By the test.
use Rattle.std.proofs.Common.{sym, arith}
use Rattle.umbrella.proofs.Cases.{left_hung, left_entered}
use Rattle.umbrella.proofs.roles.left_step.Goals as goal

pub returns-then-ud_r-d : goal.returns-then-ud_r-d
returns-then-ud_r-d c = sym (left_hung c.args.d c.args.ud_r (omega arith))

pub returns : goal.returns
returns c = sym (left_entered c.args.d c.args.ud_r (omega arith))
