-- By the test.
use Rattle.std.proofs.Common.{sym, arith}
use Rattle.umbrella.proofs.Cases.{right_hung, right_entered}
use Rattle.umbrella.proofs.roles.right_step.Goals as goal

pub returns-then-ud_l-d : goal.returns-then-ud_l-d
returns-then-ud_l-d c = sym (right_hung c.args.d c.args.ud_l (omega arith))

pub returns : goal.returns
returns c = sym (right_entered c.args.d c.args.ud_l (omega arith))
