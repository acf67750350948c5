-- The plan of a part does not depend on its angles.
use mathlib.Core.Path.{◌≡◌, refl}
use Rattle.polygon.specs.Polygon.{Polygon, bare}
use Rattle.sheet.specs.Sheet.{Reading, refused, held}
use Rattle.sheet.proofs.Hand.{bared}
use Rattle.umbrella.specs.Best.{plan_of}
use Rattle.plan.specs.Answer.{counts_of, answer}

pub plan_bare : (p : Polygon) → counts_of (plan_of (bare p)) ≡ counts_of (plan_of p)
plan_bare p = refl

-- nor does what Plan answers
pub answer_bare : (q : Reading) → answer (bared q) ≡ answer q
unfolding answer bared
answer_bare (refused k) = refl
answer_bare (held p) = plan_bare p
