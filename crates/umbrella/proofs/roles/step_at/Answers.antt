-- By the five roles.
use Rattle.std.proofs.Common.{◌∙◌}
use Rattle.umbrella.specs.Roles.{step_at}
use Rattle.umbrella.proofs.roles.step_at.Goals as goal

pub returns-in-Hung : goal.returns-in-Hung
unfolding step_at
returns-in-Hung c = rw c.in-Hung.is

pub returns-in-LeftRim : goal.returns-in-LeftRim
unfolding step_at
returns-in-LeftRim c = rw c.in-LeftRim.is c.left_step.ensures

pub returns-in-RightRim : goal.returns-in-RightRim
unfolding step_at
returns-in-RightRim c = rw c.in-RightRim.is c.right_step.ensures

pub returns-in-FromLeft : goal.returns-in-FromLeft
unfolding step_at
returns-in-FromLeft c = rw c.in-FromLeft.is (c.stem_step.ensures ∙ rw (c.goes_left.ensures, c.in-FromLeft.is))

pub returns-in-FromRight : goal.returns-in-FromRight
unfolding step_at
returns-in-FromRight c = rw c.in-FromRight.is (c.stem_step-in-FromRight.ensures ∙ rw (c.goes_left-in-FromRight.ensures, c.in-FromRight.is))
