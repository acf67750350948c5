-- The normal sheet of a part: its pairs read back, its length and its map byte.
use mathlib.Core.Path.{◌≡◌, refl, ap, ap₂, ◌∙◌}
use mathlib.Core.List.{List, [], ◌∷◌, ◌++◌}
use Prim.Native.Nat.{ℕ, zero, suc, ◌+◌, ◌*◌, ◌-◌, ◌≤◌, ◌<◌}
use native.Mathlib.Nat.{add-zero, add_assoc, min-eq_left, max-eq_right}
use native.Mathlib.Omega.{arith}
use lib.ListN.{length, length-append}
use Rattle.lists.specs.Lists.{All, all_cons}
use Rattle.polygon.specs.Angles.{Angle, Angles, none, each, Allowed}
use Rattle.polygon.specs.Polygon.{Edge, Polygon, Valid}
use Rattle.polygon.specs.Order.{lower_first}
use Rattle.codec.specs.Numbers.{bytes16, run16}
use Rattle.sheet.specs.Sheet.{bit0, bit1, bit2, bit3, field, pairs, angles, pair_bytes, angle_bytes, angled, map_byte, more, normal_sheet}
use Rattle.sheet.proofs.Fields.{more_bit}
use Rattle.codec.proofs.Numbers.{get16_after, get16_back, length_run16}

-- the pairs behind a prefix, and how many they are
pub pairs_after : (xs ys : List ℕ) (at k : ℕ) → pairs (xs ++ ys) (length xs + at) k ≡ pairs ys at k
unfolding pairs
pairs_after xs ys at zero = refl
pairs_after xs ys at (suc k) = rw (get16_after xs ys at, add_assoc (length xs) at 2, add_assoc (length xs) at 4, get16_after xs ys (at + 2), pairs_after xs ys (at + 4) k)

pub pairs_count : (s : List ℕ) (at k : ℕ) → length (pairs s at k) ≡ k
unfolding pairs
pairs_count s at zero = refl
pairs_count s at (suc k) = ap suc (pairs_count s (at + 4) k)

pub lower_first_same : (e : Edge) → e.0 ≤ e.1 → lower_first e ≡ e
unfolding lower_first
lower_first_same e h = rw (min-eq_left h, max-eq_right h)

-- pairs that are written lower corner first are read back
first_back : (es : List Edge) (ys : List ℕ) → All (λ e. e.0 ≤ e.1) es → pairs (pair_bytes es ++ ys) 0 (length es) ≡ es
unfolding pairs pair_bytes
first_back [] ys a = refl
first_back (e ∷ es) ys (all_cons h a) =
    ap₂ ◌∷◌ (rw (get16_back e.0 [], get16_back e.1 []) (lower_first_same e h)) (pairs_after (bytes16 e.0 ++ bytes16 e.1) (pair_bytes es ++ ys) 0 (length es) ∙ first_back es ys a)

pub pairs_back : (xs : List ℕ) (es : List Edge) (ys : List ℕ) → All (λ e. e.0 ≤ e.1) es → pairs (xs ++ (pair_bytes es ++ ys)) (length xs) (length es) ≡ es
pairs_back xs es ys a = rw (add-zero (length xs)) at (pairs_after xs (pair_bytes es ++ ys) 0 (length es)) ∙ first_back es ys a

-- the angles behind a prefix, how many they are, and written and read back
angles_after : (xs ys : List ℕ) (at k : ℕ) → angles (xs ++ ys) (length xs + at) k ≡ angles ys at k
unfolding angles
angles_after xs ys at zero = refl
angles_after xs ys at (suc k) = rw (get16_after xs ys at, add_assoc (length xs) at 2, angles_after xs ys (at + 2) k)

pub angles_count : (s : List ℕ) (at k : ℕ) → length (angles s at k) ≡ k
unfolding angles
angles_count s at zero = refl
angles_count s at (suc k) = ap suc (angles_count s (at + 2) k)

angles_first : (vs : List Angle) → angles (run16 vs) 0 (length vs) ≡ vs
unfolding angles run16
angles_first [] = refl
angles_first (v ∷ vs) = ap₂ ◌∷◌ (get16_back v []) (angles_after (bytes16 v) (run16 vs) 0 (length vs) ∙ angles_first vs)

pub angles_back : (xs : List ℕ) (vs : List Angle) → angles (xs ++ run16 vs) (length xs) (length vs) ≡ vs
angles_back xs vs = rw (add-zero (length xs)) at (angles_after xs (run16 vs) 0 (length vs)) ∙ angles_first vs

-- the length of the normal sheet
pub pairs_length : (es : List Edge) → length (pair_bytes es) ≡ 4 * length es
unfolding pair_bytes
pairs_length [] = refl
pairs_length (e ∷ es) = omega (arith, pairs_length es)

angles_length : (n k : ℕ) (xs : Angles) → k + 3 ≡ n → Allowed n xs → length (angle_bytes xs) ≡ field (angled xs) (2 * k)
angles_length n k none e A = refl
angles_length n k (each vs) e A = omega (arith, length_run16 vs)

pub normal_length_lem : (p : Polygon) → Valid p → length (normal_sheet p) ≡ 3 + 4 * (p.n - 3) + field (angled p.angles) (2 * (p.n - 3))
unfolding normal_sheet
normal_length_lem p v =
    let full : length p.ds + 3 ≡ p.n = v.triangulated.full in
    let k : length p.ds ≡ p.n - 3 = omega arith in
    omega (arith, pairs_length p.ds, length-append (pair_bytes p.ds) (angle_bytes p.angles), rw k at (angles_length p.n (length p.ds) p.angles full v.allowed))

-- the bits of the map byte: bit 2 does not stand, and bit 3 does if there are angles
pub record MapOf (n : ℕ) (xs : Angles) (m : ℕ) : Type 0 where
  pub low : bit0 m ≡ 1
  pub agrees : bit1 m ≡ more n
  pub bare : bit2 m ≡ 0
  pub with_angles : bit3 m ≡ angled xs
  pub small : m < 16

angled_bit : (xs : Angles) → angled xs < 2
angled_bit none = omega arith
angled_bit (each vs) = omega arith

pub map_byte_lem : (n : ℕ) (xs : Angles) → MapOf n xs (map_byte n xs)
unfolding map_byte
map_byte_lem n xs = omega (arith, more_bit n, angled_bit xs)
