-- The map byte of a sheet: its count of ones is the number of fields present, and the length that the fields add up to.
use mathlib.Core.Path.{◌≡◌, sym, ◌∙◌}
use mathlib.Core.Logic.{◌↔◌}
use Prim.Native.Nat.{ℕ, zero, suc, ◌+◌, ◌*◌, ◌-◌, ◌/◌, ◌≤◌, ◌<◌}
use native.Mathlib.Decide.{dec_lt, ℕ_discrete}
use native.Mathlib.Omega.{arith}
use lib.Count.{ones, ones_step}
use Rattle.lists.proofs.Lists.{choose_no, choose_yes}
use Rattle.sheet.specs.Sheet.{bit0, bit1, bit2, bit3, field, sheet_length, angles_at, more}

no_ones : (m : ℕ) → m ≡ 0 → ones m ≡ 0
unfolding ones
no_ones m e = rw e

three_bits : (m : ℕ) → m < 8 → ones m ≡ bit0 m + bit1 m + bit2 m
three_bits m h =
    let e : m / 2 / 2 ≡ m / 4 = omega arith in
    omega (arith, ones_step m, ones_step (m / 2), ones_step (m / 2 / 2), no_ones (m / 2 / 2 / 2) (omega arith))

-- "The number of fields present is the number of bits that stand"
pub fields : (m : ℕ) → m < 16 → ones m ≡ bit0 m + bit1 m + bit2 m + bit3 m
fields m h =
    let e : m / 2 / 2 ≡ m / 4 = omega arith in
    let f : m / 2 / 4 ≡ m / 8 = omega arith in
    ones_step m ∙ rw (three_bits (m / 2) (omega arith), e, f) (omega arith)

-- bit 1 stands exactly when n > 3
pub more_yes : (n : ℕ) → 3 < n → more n ≡ 1
unfolding more
more_yes n h = choose_yes (dec_lt 3 n) 0 h

pub more_no : (n : ℕ) → n ≤ 3 → more n ≡ 0
unfolding more
more_no n h = choose_no (dec_lt 3 n) 1 (λ t. omega arith)

pub more_bit : (n : ℕ) → more n < 2
more_bit n = go (dec_lt 3 n)
  where
    go : Dec (3 < n) → more n < 2
    go (yes h) = omega (arith, more_yes n h)
    go (no h) = omega (arith, more_no n (omega arith))

-- bit 1 is as `more` gives it exactly if it stands exactly when n > 3
pub more_stands : (b n : ℕ) → b ≡ more n → (b ≡ 1) ↔ (3 < n)
more_stands b n e = (go (dec_lt 3 n), λ h. e ∙ more_yes n h)
  where
    go : Dec (3 < n) → b ≡ 1 → 3 < n
    go (yes k) h = k
    go (no k) h = absurd (omega (arith, more_no n (omega arith)))

pub stands_more : (b n : ℕ) → b < 2 → (b ≡ 1) ↔ (3 < n) → b ≡ more n
stands_more b n h f = go (dec_lt 3 n) (ℕ_discrete b 1)
  where
    go : Dec (3 < n) → Dec (b ≡ 1) → b ≡ more n
    go (yes k) d = f.1 k ∙ sym (more_yes n k)
    go (no k) (yes e) = absurd (k (f.0 e))
    go (no k) (no e) = omega (arith, more_no n (omega arith))

-- the length that the fields add up to, where bit 0 stands and bit 1 agrees with n
field_is : (b size : ℕ) → b < 2 → field b size ≡ b * size
field_is zero size h = omega arith
field_is (suc zero) size h = omega arith
field_is (suc (suc b)) size h = absurd (omega arith)

pub length_is : (m n : ℕ) → bit0 m ≡ 1 → 3 ≤ n → bit1 m ≡ more n → sheet_length m n ≡ angles_at m n + field (bit3 m) (2 * (n - 3))
length_is m n low least agrees = go (dec_lt 3 n)
  where
    go : Dec (3 < n) → sheet_length m n ≡ angles_at m n + field (bit3 m) (2 * (n - 3))
    go (yes h) = rw (low, agrees, more_yes n h)
    go (no h) = let e : n ≡ 3 = omega arith in rw (low, agrees, more_no n (omega arith), e)

-- where the angles stand, and how many bytes they have at most
pub angles_at_lem : (m n : ℕ) → angles_at m n ≡ 3 + 4 * (n - 3) + 4 * bit2 m
angles_at_lem m n = omega (arith, field_is (bit2 m) 4 (omega arith))

pub field_most : (b size : ℕ) → field b size ≤ size
field_most zero size = omega arith
field_most (suc b) size = omega arith
