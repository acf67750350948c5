-- The laws of specs/Order.antt on single edges and on an ascending list: the order goes one way, what removing an edge leaves, what inserting one gives.
-- They rest on the laws of lists.
use mathlib.Core.Path.{◌≡◌, refl, ap, sym}
use mathlib.Core.Logic.{◌⊎◌, inl, inr}
use mathlib.Core.List.{List, [], ◌∷◌}
use Prim.Native.Nat.{ℕ, suc, ◌+◌, ◌≤◌, ◌<◌}
use native.Mathlib.Decide.{dec_lt}
use native.Mathlib.Omega.{arith}
use lib.ListN.{length}
use Rattle.lists.specs.Lists.{All, Mem, Sub, all_cons, all_nil, keep, not?, sorted_cons, sorted_nil}
use Rattle.lists.proofs.Lists.{all_imp, all_mem, all_self, count2, here, keep_all, keep_mem, keep_sorted, keep_sub, keep_test, once}
use Rattle.polygon.specs.Polygon.{Edge, ◌—◌, Before, Ascending}
use Rattle.polygon.specs.Order.{same?, remove, place, insert}

-- an edge by its corners
pub edge : {e : Edge} {a b : ℕ} → e.0 ≡ a → e.1 ≡ b → e ≡ a — b
edge p q = λ i. (p i, q i)

pub low_of : {p q : Edge} → p ≡ q → p.0 ≡ q.0
low_of h = ap (λ (x : Edge). x.0) h

pub high_of : {p q : Edge} → p ≡ q → p.1 ≡ q.1
high_of h = ap (λ (x : Edge). x.1) h

-- the order of edges
pub one_way : (p q : Edge) → Before p q → Before q p → ⊥
one_way p q (inl h) (inl k) = omega arith
one_way p q (inl h) (inr k) = omega arith
one_way p q (inr h) (inl k) = omega arith
one_way p q (inr h) (inr k) = omega arith

pub not_self : (p q : Edge) → Before p q → ¬ (p ≡ q)
not_self p q (inl h) e = omega (arith, low_of e)
not_self p q (inr h) e = omega (arith, high_of e)

earlier : {p q r : Edge} → Before p q → Before q r → Before p r
earlier (inl h) (inl k) = inl (omega arith)
earlier (inl h) (inr k) = inl (omega arith)
earlier (inr h) (inl k) = inl (omega arith)
earlier (inr h) (inr k) = inr (omega arith)

otherwise : (p q : Edge) → ¬ Before p q → ¬ (p ≡ q) → Before q p
otherwise p q f g = go (dec_lt q.0 p.0) (dec_lt p.0 q.0) (dec_lt q.1 p.1) (dec_lt p.1 q.1)
  where
    go : Dec (q.0 < p.0) → Dec (p.0 < q.0) → Dec (q.1 < p.1) → Dec (p.1 < q.1) → Before q p
    go (yes h) i j k = inl h
    go (no h) (yes i) j k = absurd (f (inl i))
    go (no h) (no i) (yes j) k = inr (omega arith, j)
    go (no h) (no i) (no j) (yes k) = absurd (f (inr (omega arith, k)))
    go (no h) (no i) (no j) (no k) = absurd (g (edge (omega arith) (omega arith)))

module _ (e : Edge) where
  -- the list without e
  pub remove_all : {Q : Edge → Type 0} {es : List Edge} → All Q es → All Q (remove e es)
  unfolding remove
  remove_all a = keep_all _ a

  pub remove_other : (es : List Edge) → All (λ x. ¬ (x ≡ e)) (remove e es)
  unfolding remove
  remove_other es = keep_test _ es

  pub remove_ascending : {es : List Edge} → Ascending es → Ascending (remove e es)
  unfolding remove
  remove_ascending s = keep_sorted _ s

  pub remove_mem : {x : Edge} (es : List Edge) → Mem x es → ¬ (x ≡ e) → Mem x (remove e es)
  unfolding remove
  remove_mem es m f = keep_mem _ es m f

  -- at most one goes; and where one goes, it was there
  same_or : (x : Edge) → (¬ (x ≡ e)) ⊎ (x ≡ e)
  same_or x = go (same? x e)
    where
      go : Dec (x ≡ e) → (¬ (x ≡ e)) ⊎ (x ≡ e)
      go (yes h) = inr h
      go (no h) = inl h

  hits : List Edge → List Edge
  hits es = keep (λ x. same? x e) es

  counted : (es : List Edge) → length es ≤ length (remove e es) + length (hits es)
  unfolding remove hits
  counted es = count2 (λ x. not? (same? x e)) (λ x. same? x e) es (all_imp (λ x m. same_or x) (all_self es))

  pub remove_length : {es : List Edge} → Ascending es → length es ≤ suc (length (remove e es))
  unfolding hits
  remove_length {es} s = omega (arith, counted es, once one_way e (hits es) (keep_sorted _ s) (keep_test _ es))

  pub first : (xs : List Edge) → All (λ x. x ≡ e) xs → 1 ≤ length xs → Mem e xs
  first [] a h = absurd (omega arith)
  first (x ∷ xs) (all_cons p a) h = rw (sym p) here

  pub removed : (es : List Edge) → length (remove e es) < length es → Mem e es
  unfolding hits
  removed es h = keep_sub _ es e (first (hits es) (keep_test _ es) (omega (arith, counted es)))

  -- the list with e put in at its place
  place_all : {P : Type 0} {Q : Edge → Type 0} (d : Dec P) (x : Edge) (xs ys : List Edge) → Q e → Q x → All Q xs → All Q ys → All Q (place d e x xs ys)
  unfolding place
  place_all (yes p) x xs ys q r a b = all_cons q (all_cons r a)
  place_all (no p) x xs ys q r a b = all_cons r b

  pub insert_all : {Q : Edge → Type 0} {es : List Edge} → Q e → All Q es → All Q (insert e es)
  unfolding insert
  insert_all q all_nil = all_cons q all_nil
  insert_all q (all_cons {x} {l = xs} r a) = place_all _ x xs (insert e xs) q r a (insert_all q a)

  place_length : {P : Type 0} (d : Dec P) (x : Edge) (xs ys : List Edge) → length ys ≡ suc (length xs) → length (place d e x xs ys) ≡ suc (suc (length xs))
  unfolding place
  place_length (yes p) x xs ys h = refl
  place_length (no p) x xs ys h = ap suc h

  pub insert_length : (es : List Edge) → length (insert e es) ≡ suc (length es)
  unfolding insert
  insert_length [] = refl
  insert_length (x ∷ xs) = place_length _ x xs (insert e xs) (insert_length xs)

  place_ascending : (x : Edge) (xs : List Edge) (d : Dec (Before e x)) → ¬ (x ≡ e) → All (Before x) xs → Ascending xs → Ascending (insert e xs) → Ascending (place d e x xs (insert e xs))
  unfolding place
  place_ascending x xs (yes p) n o s t = sorted_cons (all_cons p (all_imp (λ y h. earlier {p = e} {q = x} {r = y} p h) o)) (sorted_cons o s)
  place_ascending x xs (no p) n o s t = sorted_cons (insert_all (otherwise e x p (λ h. n (sym h))) o) t

  pub insert_ascending : {es : List Edge} → All (λ x. ¬ (x ≡ e)) es → Ascending es → Ascending (insert e es)
  unfolding insert
  insert_ascending all_nil sorted_nil = sorted_cons all_nil sorted_nil
  insert_ascending (all_cons {x} {l = xs} n a) (sorted_cons o s) = place_ascending x xs _ n o s (insert_ascending a s)

  -- what holds of all of the new list holds of e and of the old one
  second : {Q : Edge → Type 0} {x : Edge} {xs : List Edge} → Q x → All Q (e ∷ xs) → All Q (e ∷ (x ∷ xs))
  second r (all_cons q a) = all_cons q (all_cons r a)

  place_parts : {P : Type 0} {Q : Edge → Type 0} (d : Dec P) (x : Edge) (xs ys : List Edge) → (All Q ys → All Q (e ∷ xs)) → All Q (place d e x xs ys) → All Q (e ∷ (x ∷ xs))
  unfolding place
  place_parts (yes p) x xs ys f a = a
  place_parts (no p) x xs ys f (all_cons r a) = second r (f a)

  pub insert_parts : {Q : Edge → Type 0} (es : List Edge) → All Q (insert e es) → All Q (e ∷ es)
  unfolding insert
  insert_parts [] a = a
  insert_parts (x ∷ xs) a = place_parts _ x xs (insert e xs) (insert_parts xs) a

  pub insert_mem : (es : List Edge) → Sub (e ∷ es) (insert e es)
  insert_mem es x m = all_mem (insert_parts es (all_self (insert e es))) m
