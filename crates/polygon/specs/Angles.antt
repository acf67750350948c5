-- Request (xi), "Bend angles on the sheet": "The brake wants an angle with each diagonal." The angles of a part, apart from its diagonals.
use Rattle.std.specs.Prelude.{◌≡◌, ◌⊎◌, List, ℕ, ◌+◌, ◌≤◌, ◌<◌, length}
use Rattle.std.proofs.Math.Logic.Dec.{and as dec_and}
use Rattle.std.proofs.Math.Decide.{dec_le, dec_lt, ℕ_discrete}
use Rattle.lists.specs.Lists.{All, all?, either?, three?}

-- "signed angles, two bytes each in two's complement, in tenths of a degree": an angle is the number of its two bytes, x for x and 65,536 - x for -x
-- (`in_range_reads` in proofs/Signed.antt has the range in signed numbers)
abbrev pub Angle : Type 0
Angle = ℕ

-- "−1,800 to 1,800"
abbrev pub InRange : Angle → Type 0
InRange a = (a ≤ 1800) ⊎ ((63736 ≤ a) × (a < 65536))

-- the angles of a part: none, or "one for each" diagonal, in the order of the diagonals
pub data Angles : Type 0 where
  none : Angles
  each : List Angle → Angles

-- of n corners: "none may be missing when the bit stands, and with n = 3 the bit is clear"; none is "outside −1,800 to 1,800"
abbrev pub Allowed : ℕ → Angles → Type 0
Allowed n none = Unit {0}
Allowed n (each vs) = (3 < n) × (length vs + 3 ≡ n) × All InRange vs

unfoldable pub in_range? : (a : Angle) → Dec (InRange a)
in_range? a = either? (dec_le a 1800) (dec_and (dec_le 63736 a) (dec_lt a 65536))

unfoldable pub allowed? : (n : ℕ) (xs : Angles) → Dec (Allowed n xs)
allowed? n none = yes tt
allowed? n (each vs) = three? (dec_lt 3 n) (ℕ_discrete (length vs + 3) n) (all? in_range? vs)
