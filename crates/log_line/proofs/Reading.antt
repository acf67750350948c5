-- Reading a number in decimal: what stands behind it, a blank or a line end, is no digit, and so the number and the rest are told.
use mathlib.Core.Path.{◌≡◌, refl, ap, ap₂, sym, ◌∙◌}
use mathlib.Core.List.{List, [], ◌∷◌, ◌++◌, append_assoc}
use Prim.Native.Nat.{ℕ, zero, suc, ◌+◌, ◌*◌, ◌-◌, ◌/◌, ◌%◌, ◌^◌, ◌<◌, ◌≤◌}
use native.Mathlib.Decide.{dec_lt}
use native.Mathlib.Omega.{arith}
use lib.ListN.{drop}
use Rattle.lists.specs.Lists.{All, all_cons, all_nil}
use Rattle.lists.proofs.Lists.{all_append}
use Rattle.log_line.specs.declared.Facts.{Facts}
use Rattle.log_line.specs.Line.{digits, decimal, line}
use Rattle.log_line.proofs.Digits.{digits_one, digits_last}

-- a digit's byte is 48 or more
digits_high : (k n : ℕ) → All (λ x. 48 ≤ x) (digits k n)
unfolding digits
digits_high zero n = all_nil
digits_high (suc k) n = go (dec_lt n 10) (digits_high k (n / 10))
  where
    go : Dec (n < 10) → All (λ x. 48 ≤ x) (digits k (n / 10)) → All (λ x. 48 ≤ x) (digits (suc k) n)
    go (yes l) a = rw (digits_one k n l) (all_cons {x = 48 + n} (omega arith) all_nil)
    go (no l) a = rw (digits_last k n (omega arith)) (all_append a (all_cons {x = 48 + n % 10} (omega arith) all_nil))

-- the number that digits stand for, behind a number read before
value : ℕ → List ℕ → ℕ
value v [] = v
value v (x ∷ xs) = value (10 * v + (x - 48)) xs

value_last : (v : ℕ) (xs : List ℕ) (x : ℕ) → value v (xs ++ (x ∷ [])) ≡ 10 * value v xs + (x - 48)
unfolding value
value_last v [] x = refl
value_last v (y ∷ ys) x = value_last (10 * v + (y - 48)) ys x

-- enough digits of a number stand for it
digits_value : (k n : ℕ) → n < 10 ^ k → value 0 (digits k n) ≡ n
unfolding digits value
digits_value zero n h = omega arith
digits_value (suc k) n h = go (dec_lt n 10) (digits_value k (n / 10))
  where
    go : Dec (n < 10) → (n / 10 < 10 ^ k → value 0 (digits k (n / 10)) ≡ n / 10) → value 0 (digits (suc k) n) ≡ n
    go (yes l) f = rw (digits_one k n l) (omega arith)
    go (no l) f = rw (digits_last k n (omega arith), value_last 0 (digits k (n / 10)) (48 + n % 10), f (omega arith)) (omega arith)

-- two runs of digits with the same byte behind them, no digit
split : (x : ℕ) → x < 48 → (cs ds : List ℕ) {xs ys : List ℕ} → All (λ z. 48 ≤ z) cs → All (λ z. 48 ≤ z) ds → cs ++ (x ∷ xs) ≡ ds ++ (x ∷ ys)
    → (cs ≡ ds) × ◌≡◌ {A = List ℕ} (x ∷ xs) (x ∷ ys)
split x l [] [] a b e = (refl, e)
split x l [] (w ∷ ds) a (all_cons h b) e = let p : x ≡ w = cc in absurd (omega arith)
split x l (z ∷ cs) [] (all_cons h a) b e = let p : z ≡ x = cc in absurd (omega arith)
split x l (z ∷ cs) (w ∷ ds) {xs} {ys} (all_cons h a) (all_cons k b) e =
    let p : z ≡ w = cc in
    let q : cs ++ (x ∷ xs) ≡ ds ++ (x ∷ ys) = cc in
    let r = split x l cs ds a b q in
    (ap₂ ◌∷◌ p r.0, r.1)

module _ (a b : ℕ) (h : a < 2 ^ 64) (k : b < 2 ^ 64) where
  -- numbers of 64 bits with the same digits are the same
  decimal_same : decimal a ≡ decimal b → a ≡ b
  unfolding decimal
  decimal_same e = sym (digits_value 20 a (omega arith)) ∙ (ap (value 0) e ∙ digits_value 20 b (omega arith))

  -- Two texts that are the same and begin with a number, with the same byte behind it, which is no digit: the numbers are the same, and so is the rest.
  pub number_told : (x : ℕ) → x < 48 → (us vs xs ys : List ℕ) → (decimal a ++ (x ∷ us)) ++ xs ≡ (decimal b ++ (x ∷ vs)) ++ ys → (a ≡ b) × ((x ∷ us) ++ xs ≡ (x ∷ vs) ++ ys)
  unfolding decimal
  number_told x l us vs xs ys e =
      let d : decimal a ++ (x ∷ (us ++ xs)) ≡ decimal b ++ (x ∷ (vs ++ ys)) = rw (append_assoc (decimal a) (x ∷ us) xs, append_assoc (decimal b) (x ∷ vs) ys) at e in
      let r = split x l (decimal a) (decimal b) (digits_high 20 a) (digits_high 20 b) d in
      (decimal_same r.0, r.1)

-- the numbers of a line have 64 bits
pub record SmallFacts (f : Facts) : Type 0 where
  pub corners : f.corners < 2 ^ 64
  pub levels : f.levels < 2 ^ 64
  pub umbrellas : f.umbrellas < 2 ^ 64
  pub stems : f.stems < 2 ^ 64
  pub rows : f.rows < 2 ^ 64
  pub columns : f.columns < 2 ^ 64

-- what two lines that begin the same text tell
pub record LineTold (f g : Facts) (xs ys : List ℕ) : Type 0 where
  pub corners : f.corners ≡ g.corners
  pub rows : f.rows ≡ g.rows
  pub columns : f.columns ≡ g.columns
  pub rest : xs ≡ ys

pub line_told : (f g : Facts) (xs ys : List ℕ) → SmallFacts f → SmallFacts g → line f ++ xs ≡ line g ++ ys → LineTold f g xs ys
unfolding line
line_told f g xs ys F G e =
    let a = number_told f.corners g.corners F.corners G.corners 32 (omega arith) _ _ xs ys (ap (drop 15) e) in
    let b = number_told f.levels g.levels F.levels G.levels 32 (omega arith) _ _ xs ys (ap (drop 8) a.1) in
    let c = number_told f.umbrellas g.umbrellas F.umbrellas G.umbrellas 32 (omega arith) _ _ xs ys (ap (drop 11) b.1) in
    let h = number_told f.stems g.stems F.stems G.stems 32 (omega arith) _ _ xs ys (ap (drop 7) c.1) in
    let k = number_told f.rows g.rows F.rows G.rows 32 (omega arith) _ _ xs ys (ap (drop 6) h.1) in
    let l = number_told f.columns g.columns F.columns G.columns 10 (omega arith) _ _ xs ys (ap (drop 9) k.1) in
    record { corners = a.0; rows = k.0; columns = l.0; rest = ap (drop 1) l.1 }
