-- Stores of a run of values into a list, one after another: `sets l i vs` of the kit's lib.Seq.
use mathlib.Core.Path.{◌≡◌, refl, sym, ◌∙◌, ap, ap₂}
use mathlib.Core.List.{List, [], ◌∷◌, ◌++◌}
use Prim.Native.Nat.{ℕ, zero, suc, ◌+◌, ◌<◌, ◌≤◌}
use native.Mathlib.Nat.{add-zero, zero-add}
use native.Mathlib.Omega.{arith}
use lib.ListN.{length, drop, get_or, set, length-set}
use lib.Seq.{sets, sets-eq, set_comm, get_or-set_same, get_or-set_other}
use Rattle.std.proofs.lemmas.List.{take-append-drop}
use Rattle.std.proofs.lemmas.Slice.{take-put_mid, drop-put_mid}
use borrow.Rule.Slice.PartMut.{put_mid}

-- a run after a run
pub sets_append : (xs ys l : List ℕ) (i : ℕ) → sets l i (xs ++ ys) ≡ sets (sets l i xs) (i + length xs) ys
sets_append [] ys l i = rw (add-zero i)
sets_append (x ∷ xs) ys l i =
    let e : i + suc (length xs) ≡ suc i + length xs = omega arith in
    rw e (sets_append xs ys _ (suc i))

-- a run from the start
pub sets_front : (bs l : List ℕ) → length bs ≤ length l → sets l 0 bs ≡ bs ++ drop (length bs) l
sets_front bs l h = rw (zero-add (length bs)) at (sets-eq bs l 0 (omega arith))

-- a value stored outside of a run
pub sets_set : (xs l : List ℕ) (i j v : ℕ) → (i ≤ j → j < i + length xs → ⊥) → set (sets l i xs) j v ≡ sets (set l j v) i xs
sets_set [] l i j v o = refl
sets_set (x ∷ xs) l i j v o = sets_set xs (set l i x) (suc i) j v (λ h k. o (omega arith) (omega arith)) ∙ ap (λ (m : List ℕ). sets m (suc i) xs) (set_comm l i j x v (λ e. o (omega arith) (omega arith)))

-- two runs that do not meet
pub sets_comm : (xs ys l : List ℕ) (i j : ℕ) → i + length xs ≤ j → sets (sets l j ys) i xs ≡ sets (sets l i xs) j ys
sets_comm [] ys l i j h = refl
sets_comm (x ∷ xs) ys l i j h = ap (λ (m : List ℕ). sets m (suc i) xs) (sets_set ys l j i x (λ a b. omega arith)) ∙ sets_comm xs ys (set l i x) (suc i) j (omega arith)

-- the places outside of a run, and those of it
pub sets_outside : (xs l : List ℕ) (i j : ℕ) → (i ≤ j → j < i + length xs → ⊥) → get_or (sets l i xs) j 0 ≡ get_or l j 0
sets_outside [] l i j o = refl
sets_outside (x ∷ xs) l i j o = sets_outside xs (set l i x) (suc i) j (λ h k. o (omega arith) (omega arith)) ∙ get_or-set_other l i j x 0 (λ e. o (omega arith) (omega arith))

pub sets_within : (xs l : List ℕ) (i j : ℕ) → j < length xs → i + length xs ≤ length l → get_or (sets l i xs) (i + j) 0 ≡ get_or xs j 0
sets_within [] l i j h k = absurd (omega arith)
sets_within (x ∷ xs) l i zero h k = rw (add-zero i) (sets_outside xs (set l i x) (suc i) i (λ a b. omega arith) ∙ get_or-set_same l i x 0 (omega arith))
sets_within (x ∷ xs) l i (suc j) h k =
    let e : i + suc j ≡ suc i + j = omega arith in
    rw e (sets_within xs (set l i x) (suc i) j (omega arith) (omega (arith, length-set l i x)))

-- a run copied into a part of a list by `copy_from_slice`
pub sets_mid : (a k : ℕ) (xs ys : List ℕ) → k ≡ length ys → a + length ys ≤ length xs → put_mid a k xs ys ≡ sets xs a ys
sets_mid a k xs ys e h =
    sym (take-append-drop (a + k) (put_mid a k xs ys))
    ∙ (ap₂ ◌++◌ (take-put_mid a k xs ys (a + k) (omega arith) (omega arith)) (drop-put_mid a k xs ys (a + k) (omega arith) (omega arith) (sym e))
    ∙ (rw e (sym (sets-eq ys xs a h))))
