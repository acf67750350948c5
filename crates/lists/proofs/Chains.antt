-- What chains of std's iterator methods answer, in the words of specs/Lists.antt.
use Rattle.std.proofs.Common.{◌≡◌, true, false, Bool, List, [], ◌∷◌, ℕ, zero, suc, ◌<◌, length, add-one, refl, ap, sym, arith, eqb, eq-eqb, ne_eqb}
use Rattle.std.proofs.Math.Bool.{or-true}
use Rattle.std.proofs.Math.Decide.{ℕ_discrete}
use Rattle.std.specs.Bool.{MatchBool}
use Rattle.std.specs.List.{AllWithin, HoldsAt, list_any, range_with_len}
use Rattle.lists.specs.Lists.{All, all_nil, all_cons, Mem, head, tail, numbers, below}
use Rattle.lists.proofs.Places.{at_all}

-- all elements have a property if each has it at its place
places_all : {A : Type 0} {Q : A → Type 0} (l : List A) → AllWithin Q l 0 (length l) → All Q l
places_all [] f = all_nil
places_all (x ∷ l) f = all_cons (f 0 x (omega arith) (omega arith)) (places_all l (λ k d h i. f (suc k) d (omega arith) (omega arith)))

-- of the cases of `all`, by std's lemma `cases_from_all`: what it answers of the elements of a list
pub all_yes : {A : Type 0} {Q : A → Type 0} {l : List A} (r : Bool) → MatchBool r (AllWithin Q l 0 (length l)) ((k : ℕ) × (k < length l) × HoldsAt (λ x. ¬ Q x) l k) → r ≡ true → All Q l
all_yes {l = l} true m h = places_all l m
all_yes false m h = absurd (cc h)

pub all_no : {A : Type 0} {Q : A → Type 0} {l : List A} (r : Bool) → MatchBool r (AllWithin Q l 0 (length l)) ((k : ℕ) × (k < length l) × HoldsAt (λ x. ¬ Q x) l k) → r ≡ false → ¬ All Q l
all_no true m h a = absurd (cc h)
all_no {l = []} false (k, i, f) h a = absurd (omega arith)
all_no {l = x ∷ l} false (k, i, f) h a = f x (at_all x a k i)

-- the numbers of a range from 0
range_numbers : (n u : ℕ) → range_with_len u n ≡ numbers n u
unfolding numbers
range_numbers zero u = refl
range_numbers (suc n) u = rw add-one (ap (λ l. u ∷ l) (range_numbers n (suc u)))

pub range_below : (n : ℕ) → range_with_len 0 n ≡ below n
unfolding below
range_below n = range_numbers n 0

-- `contains`: true exactly if the number is in the list
pub any_mem : (k : ℕ) (ks : List ℕ) → list_any (λ y. eqb y k) ks ≡ true → Mem k ks
any_mem k [] h = cc
any_mem k (x ∷ ks) h = go (ℕ_discrete x k) (any_mem k ks)
  where
    go : Dec (x ≡ k) → (list_any (λ y. eqb y k) ks ≡ true → Mem k ks) → Mem k (x ∷ ks)
    go (yes p) f = head (sym p)
    go (no p) f = tail (f (rw (ne_eqb x k p) at h))

pub mem_any : (k : ℕ) (ks : List ℕ) → Mem k ks → list_any (λ y. eqb y k) ks ≡ true
mem_any k [] m = elim m [ ]
mem_any k (x ∷ ks) (head e) = rw (eq-eqb x k (sym e))
mem_any k (x ∷ ks) (tail m) = rw (mem_any k ks m, or-true (eqb x k))
