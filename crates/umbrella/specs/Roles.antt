-- How the plan drawn goes on from a triangle to the two pieces beyond its other edges, by the numbers of the pieces: one walk for counting, columns and rows.
-- (`by_recursion` in proofs/Induction.antt: its steps are the choices of Best.antt.)
use Rattle.std.specs.Prelude.{Bool, true, false, not, ℕ, zero, suc}
use Rattle.std.proofs.Math.Decide.{dec_le}
use Rattle.lists.specs.Lists.{choose}
use Rattle.polygon.specs.Tree.{Tree}
use Rattle.umbrella.specs.Values.{ud, handle}
use Rattle.umbrella.specs.declared.roles.Role.{Role}
use Rattle.umbrella.specs.declared.roles.Role.TheVariants.{Hung, LeftRim, RightRim, FromLeft, FromRight}
use Rattle.umbrella.specs.declared.roles.Step.{Step}

-- "If s < i, build from the right": the rim below c, and a stem that enters across it
abbrev pub from_right : Role → Bool
from_right Hung = false
from_right LeftRim = true
from_right RightRim = false
from_right FromLeft = false
from_right FromRight = true

abbrev pub is_hung : Role → Bool
is_hung Hung = true
is_hung LeftRim = false
is_hung RightRim = false
is_hung FromLeft = false
is_hung FromRight = false

-- a piece on the rim with d levels under the umbrella: hung if it does with d levels; else the stem enters it
unfoldable pub left_step : ℕ → ℕ → Step
left_step d b = choose (dec_le b d) (record { left = LeftRim; right = Hung; crossed = false }) (record { left = LeftRim; right = FromRight; crossed = true })

unfoldable pub right_step : ℕ → ℕ → Step
right_step d a = choose (dec_le a d) (record { left = Hung; right = RightRim; crossed = false }) (record { left = FromLeft; right = RightRim; crossed = true })

-- whether the stem goes on across (p,x): a, b and h are the levels of the piece on (p,x), of that on (x,q), and of a stem through the piece on (p,x)
-- "E acts as L if (p,x) is a side, else as R"; built from the right "as R if (x,q) is a side, else as L".
unfoldable pub goes_left : Bool → (d a b h : ℕ) → Bool
goes_left k d zero zero h = not k
goes_left k d zero (suc b) h = choose (dec_le (suc b) d) true false
goes_left k d (suc a) zero h = choose (dec_le (suc a) d) false true
goes_left k d (suc a) (suc b) h = choose (dec_le (suc b) d) (choose (dec_le h d) true false) false

-- the stem goes on across one edge, the other piece is hung
unfoldable pub stem_step : Role → Bool → Bool → Step
stem_step p k true = record { left = p; right = Hung; crossed = not k }
stem_step p k false = record { left = Hung; right = p; crossed = k }

-- the roles of the two pieces beyond a triangle, by the role of its piece
unfoldable pub step_at : Role → (d a b h : ℕ) → Step
step_at Hung d a b h = record { left = LeftRim; right = RightRim; crossed = false }
step_at LeftRim d a b h = left_step d b
step_at RightRim d a b h = right_step d a
step_at FromLeft d a b h = stem_step FromLeft false (goes_left false d a b h)
step_at FromRight d a b h = stem_step FromRight true (goes_left true d a b h)

abbrev pub step_of : Role → ℕ → Tree → Tree → Step
step_of p d l r = step_at p d (ud l) (ud r) (handle l)

-- the levels under the umbrella: k under an own one, if the piece is hung
abbrev pub levels_under : Role → ℕ → ℕ → ℕ
levels_under Hung d k = k
levels_under LeftRim d k = d
levels_under RightRim d k = d
levels_under FromLeft d k = d
levels_under FromRight d k = d
