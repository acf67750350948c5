-- By the test.
use Rattle.umbrella.specs.Roles.{stem_step}
use Rattle.umbrella.proofs.roles.stem_step.Goals as goal

pub returns-then-left : goal.returns-then-left
unfolding stem_step
returns-then-left c = rw c.if-left.true

pub returns : goal.returns
unfolding stem_step
returns c = rw c.if-left.false
