-- Decimal digits: enough of them are enough, and the last one comes last.
use mathlib.Core.Path.{◌≡◌, ap, sym, ◌∙◌}
use mathlib.Core.List.{List, [], ◌∷◌, ◌++◌}
use Prim.Native.Nat.{ℕ, zero, suc, ◌+◌, ◌/◌, ◌%◌, ◌^◌, ◌<◌, ◌≤◌}
use native.Mathlib.Decide.{dec_lt}
use native.Mathlib.Omega.{arith}
use lib.ListN.{length, length-append}
use Rattle.lists.proofs.Lists.{choose_no, choose_yes}
use Rattle.log_line.specs.Line.{digits}

pub digits_one : (k n : ℕ) → n < 10 → digits (suc k) n ≡ (48 + n) ∷ []
unfolding digits
digits_one k n h = choose_yes (dec_lt n 10) _ h

pub digits_last : (k n : ℕ) → 10 ≤ n → digits (suc k) n ≡ digits k (n / 10) ++ ((48 + n % 10) ∷ [])
unfolding digits
digits_last k n h = choose_no (dec_lt n 10) _ (λ l. omega arith)

-- one digit more than are needed changes nothing
digits_more : (k n : ℕ) → n < 10 ^ suc k → digits (suc (suc k)) n ≡ digits (suc k) n
digits_more zero n h = let l : n < 10 = omega arith in digits_one 1 n l ∙ sym (digits_one 0 n l)
digits_more (suc k) n h = go (dec_lt n 10) (digits_more k (n / 10))
  where
    go : Dec (n < 10) → (n / 10 < 10 ^ suc k → digits (suc (suc k)) (n / 10) ≡ digits (suc k) (n / 10)) → digits (suc (suc (suc k))) n ≡ digits (suc (suc k)) n
    go (yes l) f = digits_one (suc (suc k)) n l ∙ sym (digits_one (suc k) n l)
    go (no l) f =
        let m : n / 10 < 10 ^ suc k = omega arith in
        digits_last (suc (suc k)) n (omega arith) ∙ (ap (λ (x : List ℕ). x ++ ((48 + n % 10) ∷ [])) (f m) ∙ sym (digits_last (suc k) n (omega arith)))

-- a number of 64 bits: the digits of n / 10, and then the last one
pub digits_step : (n : ℕ) → 10 ≤ n → n < 2 ^ 64 → digits 20 n ≡ digits 20 (n / 10) ++ ((48 + n % 10) ∷ [])
digits_step n h k = digits_last 19 n h ∙ ap (λ (x : List ℕ). x ++ ((48 + n % 10) ∷ [])) (sym (digits_more 18 (n / 10) (omega arith)))

pub length_step : (n : ℕ) → 10 ≤ n → n < 2 ^ 64 → length (digits 20 n) ≡ length (digits 20 (n / 10)) + 1
length_step n h k = ap length (digits_step n h k) ∙ length-append (digits 20 (n / 10)) ((48 + n % 10) ∷ [])

pub digits_length : (k n : ℕ) → length (digits k n) ≤ k
unfolding digits
digits_length zero n = omega arith
digits_length (suc k) n = go (dec_lt n 10) (digits_length k (n / 10))
  where
    go : Dec (n < 10) → length (digits k (n / 10)) ≤ k → length (digits (suc k) n) ≤ suc k
    go (yes l) h = rw (digits_one k n l) (omega arith)
    go (no l) h = rw (digits_last k n (omega arith)) (omega (arith, length-append (digits k (n / 10)) ((48 + n % 10) ∷ [])))

-- a number below 10 ^ (j + 1) has at most j + 1 digits
pub digits_short : (j k n : ℕ) → n < 10 ^ suc j → length (digits k n) ≤ suc j
unfolding digits
digits_short j zero n h = omega arith
digits_short j (suc k) n h = go j h (dec_lt n 10) (λ i. digits_short i k (n / 10))
  where
    go : (j : ℕ) → n < 10 ^ suc j → Dec (n < 10) → ((i : ℕ) → n / 10 < 10 ^ suc i → length (digits k (n / 10)) ≤ suc i) → length (digits (suc k) n) ≤ suc j
    go j h (yes l) f = rw (digits_one k n l) (omega arith)
    go zero h (no l) f = absurd (l (omega arith))
    go (suc j) h (no l) f = rw (digits_last k n (omega arith)) (omega (arith, length-append (digits k (n / 10)) ((48 + n % 10) ∷ []), f j (omega arith)))
