-- The laws of the words about lists in specs/Lists.antt: membership, "all of them", one of two values, the elements that pass a test, sorted lists.
use mathlib.Core.Path.{◌≡◌, refl, ap, ap₂, sym, ◌∙◌, subst}
use mathlib.Core.Logic.{◌⊎◌, inl, inr}
use mathlib.Core.List.{List, [], ◌∷◌, ◌++◌, map, reverse, reverse-cons, flat_map, append_assoc}
use mathlib.Mathlib.Data.List.Basic.{map-reverse_aux}
use Prim.Native.Nat.{suc, ◌+◌, ◌≤◌}
use native.Mathlib.Omega.{arith}
use lib.ListN.{length}
use Rattle.lists.specs.Lists.{Mem, head, tail, Sub, All, all_nil, all_cons, Sorted, sorted_nil, sorted_cons, choose, put, keep, not?}

module _ {A : Type 0} where
  -- membership
  pub here : {x : A} {xs : List A} → Mem x (x ∷ xs)
  here = head refl

  pub there : {x y : A} {xs : List A} → Mem x xs → Mem x (y ∷ xs)
  there m = tail m

  pub not_empty : {x : A} → Mem x [] → ⊥
  not_empty m = elim m [ ]

  pub mem_left : {x : A} {xs : List A} (ys : List A) → Mem x xs → Mem x (xs ++ ys)
  mem_left ys (head e) = head e
  mem_left ys (tail m) = tail (mem_left ys m)

  pub mem_right : {x : A} (xs : List A) {ys : List A} → Mem x ys → Mem x (xs ++ ys)
  mem_right [] m = m
  mem_right (x ∷ xs) m = tail (mem_right xs m)

  pub snoc_cases : {z : A} (xs : List A) (y : A) → Mem z (xs ++ (y ∷ [])) → Mem z xs ⊎ (z ≡ y)
  snoc_cases [] y (head e) = inr e
  snoc_cases [] y (tail m) = absurd (not_empty m)
  snoc_cases (x ∷ xs) y (head e) = inl (head e)
  snoc_cases (x ∷ xs) y (tail m) = elim (snoc_cases xs y m) [ inl k ↦ inl (tail k) | inr e ↦ inr e ]

  -- all of them
  pub all_append : {Q : A → Type 0} {xs ys : List A} → All Q xs → All Q ys → All Q (xs ++ ys)
  all_append all_nil b = b
  all_append (all_cons q a) b = all_cons q (all_append a b)

  pub all_left : {Q : A → Type 0} (xs ys : List A) → All Q (xs ++ ys) → All Q xs
  all_left [] ys a = all_nil
  all_left (x ∷ xs) ys (all_cons q a) = all_cons q (all_left xs ys a)

  pub all_right : {Q : A → Type 0} (xs : List A) {ys : List A} → All Q (xs ++ ys) → All Q ys
  all_right [] a = a
  all_right (x ∷ xs) (all_cons q a) = all_right xs a

  pub all_imp : {Q R : A → Type 0} → ((x : A) → Q x → R x) → {xs : List A} → All Q xs → All R xs
  all_imp f all_nil = all_nil
  all_imp f (all_cons {x} q a) = all_cons (f x q) (all_imp f a)

  pub all_both : {Q R S : A → Type 0} → ((x : A) → Q x → R x → S x) → {xs : List A} → All Q xs → All R xs → All S xs
  all_both f all_nil all_nil = all_nil
  all_both f (all_cons {x} q a) (all_cons r b) = all_cons (f x q r) (all_both f a b)

  pub all_mem : {Q : A → Type 0} {x : A} {xs : List A} → All Q xs → Mem x xs → Q x
  all_mem {Q} (all_cons q a) (head e) = subst Q (sym e) q
  all_mem (all_cons q a) (tail m) = all_mem a m
  all_mem {Q = Q} all_nil x4 = elim x4 [ ]

  pub all_self : (xs : List A) → All (λ x. Mem x xs) xs
  all_self [] = all_nil
  all_self (x ∷ xs) = all_cons here (all_imp (λ y m. there m) (all_self xs))

  -- a property of all members, as a list of proofs
  pub all_of : {Q : A → Type 0} (xs : List A) → ((x : A) → Mem x xs → Q x) → All Q xs
  all_of xs f = all_imp f (all_self xs)

pub all_map : {A B : Type 0} {Q : B → Type 0} (f : A → B) {xs : List A} → All (λ x. Q (f x)) xs → All Q (map f xs)
all_map f all_nil = all_nil
all_map f (all_cons q a) = all_cons q (all_map f a)

-- two functions that agree on a list
pub map_same : {A B : Type 0} {f g : A → B} {xs : List A} → All (λ x. f x ≡ g x) xs → map f xs ≡ map g xs
map_same all_nil = refl
map_same (all_cons e a) = ap₂ ◌∷◌ e (map_same a)

-- one of two values
pub choose_yes : {A P : Type 0} (d : Dec P) {x : A} (y : A) → P → choose d x y ≡ x
unfolding choose
choose_yes (yes p) y h = refl
choose_yes (no p) y h = absurd (p h)

pub choose_same : {A P : Type 0} (d : Dec P) (x : A) → choose d x x ≡ x
unfolding choose
choose_same (yes p) x = refl
choose_same (no p) x = refl

pub choose_no : {A P : Type 0} (d : Dec P) (x : A) {y : A} → ¬ P → choose d x y ≡ y
unfolding choose
choose_no (yes p) x h = absurd (h p)
choose_no (no p) x h = refl

-- reversed and mapped lists
module _ {A : Type 0} where
  pub all_reverse : {P : A → Type 0} {l : List A} → All P l → All P (reverse l)
  all_reverse all_nil = all_nil
  all_reverse {P} (all_cons {x} {l} p a) = subst (All P) (sym (reverse-cons x l)) (all_append (all_reverse a) (all_cons p all_nil))

  pub mem_reverse : {z : A} {l : List A} → Mem z l → Mem z (reverse l)
  mem_reverse {z} (head {x} {l} e) = subst (Mem z) (sym (reverse-cons x l)) (mem_right (reverse l) (head e))
  mem_reverse {z} (tail {x} {l} m) = subst (Mem z) (sym (reverse-cons x l)) (mem_left (x ∷ []) (mem_reverse m))

module _ {A B : Type 0} (f : A → B) where
  pub map_reverse : (l : List A) → map f (reverse l) ≡ reverse (map f l)
  map_reverse l = map-reverse_aux f l []

  pub mem_map : {z : A} {l : List A} → Mem z l → Mem (f z) (map f l)
  mem_map (head e) = head (ap f e)
  mem_map (tail m) = tail (mem_map m)

  pub mem_unmap : {y : B} (l : List A) → Mem y (map f l) → (x : A) × Mem x l × (y ≡ f x)
  mem_unmap (a ∷ l) (head e) = (a, here, e)
  mem_unmap (a ∷ l) (tail m) = let (x, k, e) = mem_unmap l m in (x, tail k, e)
  mem_unmap {y = y} [] x' = elim x' [ ]

pub flat_append : {A B : Type 0} (f : A → List B) (xs ys : List A) → flat_map f (xs ++ ys) ≡ flat_map f xs ++ flat_map f ys
unfolding flat_map
flat_append f [] ys = refl
flat_append f (x ∷ xs) ys = ap (λ (l : List _). f x ++ l) (flat_append f xs ys) ∙ sym (append_assoc (f x) (flat_map f xs) (flat_map f ys))

-- the elements that pass a test
module _ {A : Type 0} where
  put_all : {P : Type 0} {Q : A → Type 0} (d : Dec P) (x : A) {xs : List A} → (P → Q x) → All Q xs → All Q (put d x xs)
  unfolding put
  put_all (yes p) x q a = all_cons (q p) a
  put_all (no p) x q a = a

  put_in : {P : Type 0} (d : Dec P) (x : A) (xs : List A) → P → suc (length xs) ≤ length (put d x xs)
  unfolding put
  put_in (yes p) x xs h = omega arith
  put_in (no p) x xs h = absurd (p h)

  put_long : {P : Type 0} (d : Dec P) (x : A) (xs : List A) → length xs ≤ length (put d x xs)
  unfolding put
  put_long (yes p) x xs = omega arith
  put_long (no p) x xs = omega arith

  put_here : {P : Type 0} (d : Dec P) (x : A) (xs : List A) → P → Mem x (put d x xs)
  unfolding put
  put_here (yes p) x xs h = here
  put_here (no p) x xs h = absurd (p h)

  put_there : {P : Type 0} (d : Dec P) (x : A) {y : A} {xs : List A} → Mem y xs → Mem y (put d x xs)
  unfolding put
  put_there (yes p) x m = there m
  put_there (no p) x m = m

  module _ {P : A → Type 0} (d : (x : A) → Dec (P x)) where
    pub keep_all : {Q : A → Type 0} {xs : List A} → All Q xs → All Q (keep d xs)
    unfolding keep
    keep_all all_nil = all_nil
    keep_all (all_cons {x} q a) = put_all (d x) x (λ p. q) (keep_all a)

    pub keep_test : (xs : List A) → All P (keep d xs)
    unfolding keep
    keep_test [] = all_nil
    keep_test (x ∷ xs) = put_all (d x) x (λ p. p) (keep_test xs)

    keep_mems : (xs : List A) → All (λ x. P x → Mem x (keep d xs)) xs
    unfolding keep
    keep_mems [] = all_nil
    keep_mems (x ∷ xs) = all_cons (put_here (d x) x (keep d xs)) (all_imp (λ y h t. put_there (d x) x (h t)) (keep_mems xs))

    pub keep_mem : {x : A} (xs : List A) → Mem x xs → P x → Mem x (keep d xs)
    keep_mem xs m = all_mem (keep_mems xs) m

    pub keep_sub : (xs : List A) → Sub (keep d xs) xs
    keep_sub xs x m = all_mem (keep_all (all_self xs)) m

  -- each element passes one of two tests, or of three
  module _ {P Q : A → Type 0} (f : (x : A) → Dec (P x)) (g : (x : A) → Dec (Q x)) where
    pub count2 : (xs : List A) → All (λ x. P x ⊎ Q x) xs → length xs ≤ length (keep f xs) + length (keep g xs)
    unfolding keep
    count2 [] a = omega arith
    count2 (x ∷ xs) (all_cons (inl p) a) = omega (arith, count2 xs a, put_in (f x) x (keep f xs) p, put_long (g x) x (keep g xs))
    count2 (x ∷ xs) (all_cons (inr q) a) = omega (arith, count2 xs a, put_in (g x) x (keep g xs) q, put_long (f x) x (keep f xs))

  module _ {P Q R : A → Type 0} (f : (x : A) → Dec (P x)) (g : (x : A) → Dec (Q x)) (h : (x : A) → Dec (R x)) where
    pub count3 : (xs : List A) → All (λ x. P x ⊎ (Q x ⊎ R x)) xs → length xs ≤ length (keep f xs) + length (keep g xs) + length (keep h xs)
    unfolding keep
    count3 [] a = omega arith
    count3 (x ∷ xs) (all_cons (inl p) a) = omega (arith, count3 xs a, put_in (f x) x (keep f xs) p, put_long (g x) x (keep g xs), put_long (h x) x (keep h xs))
    count3 (x ∷ xs) (all_cons (inr (inl p)) a) = omega (arith, count3 xs a, put_long (f x) x (keep f xs), put_in (g x) x (keep g xs) p, put_long (h x) x (keep h xs))
    count3 (x ∷ xs) (all_cons (inr (inr p)) a) = omega (arith, count3 xs a, put_long (f x) x (keep f xs), put_long (g x) x (keep g xs), put_in (h x) x (keep h xs) p)

put_append : {A P : Type 0} (d : Dec P) (x : A) (xs ys : List A) → put d x xs ++ ys ≡ put d x (xs ++ ys)
unfolding put
put_append (yes p) x xs ys = refl
put_append (no p) x xs ys = refl

pub keep_append : {A : Type 0} {P : A → Type 0} (d : (x : A) → Dec (P x)) (xs ys : List A) → keep d (xs ++ ys) ≡ keep d xs ++ keep d ys
unfolding keep
keep_append d [] ys = refl
keep_append d (x ∷ xs) ys = ap (put (d x) x) (keep_append d xs ys) ∙ sym (put_append (d x) x (keep d xs) (keep d ys))

-- one element more, and how many pass
module _ {A : Type 0} {P : A → Type 0} (d : (x : A) → Dec (P x)) where
  pub keep_yes : (x : A) (xs : List A) → P x → keep d (x ∷ xs) ≡ x ∷ keep d xs
  unfolding keep put
  keep_yes x xs p = go (d x)
    where
      go : (k : Dec (P x)) → put k x (keep d xs) ≡ x ∷ keep d xs
      go (yes q) = refl
      go (no q) = absurd (q p)

  pub keep_no : (x : A) (xs : List A) → ¬ P x → keep d (x ∷ xs) ≡ keep d xs
  unfolding keep put
  keep_no x xs p = go (d x)
    where
      go : (k : Dec (P x)) → put k x (keep d xs) ≡ keep d xs
      go (yes q) = absurd (p q)
      go (no q) = refl

-- each passes, or does not
pub keep_split : {A : Type 0} {P : A → Type 0} (d : (x : A) → Dec (P x)) (xs : List A) → length (keep d xs) + length (keep (λ x. not? (d x)) xs) ≡ length xs
unfolding keep
keep_split d [] = refl
keep_split {P = P} d (x ∷ xs) = go (d x) (keep_split d xs)
  where
    go : Dec (P x) → length (keep d xs) + length (keep (λ y. not? (d y)) xs) ≡ length xs → length (keep d (x ∷ xs)) + length (keep (λ y. not? (d y)) (x ∷ xs)) ≡ suc (length xs)
    go (yes p) e = rw (keep_yes d x xs p, keep_no (λ y. not? (d y)) x xs (λ f. f p)) (omega arith)
    go (no p) e = rw (keep_no d x xs p, keep_yes (λ y. not? (d y)) x xs p) (omega arith)

module _ {A : Type 0} {P : A → Type 0} (d : (x : A) → Dec (P x)) where
  -- all pass exactly if none is left out
  pub keep_every : {xs : List A} → All P xs → length (keep d xs) ≡ length xs
  unfolding keep
  keep_every all_nil = refl
  keep_every (all_cons {x} {l} p a) = rw (keep_yes d x l p) (ap suc (keep_every a))

  pub keep_full : (xs : List A) → length xs ≤ length (keep d xs) → All P xs
  keep_full [] h = all_nil
  keep_full (x ∷ xs) h = go (d x) (keep_full xs)
    where
      go : Dec (P x) → (length xs ≤ length (keep d xs) → All P xs) → All P (x ∷ xs)
      go (yes p) f = all_cons p (f (let k = rw (keep_yes d x xs p) at h in omega arith))
      go (no p) f = absurd (let k = rw (keep_no d x xs p) at h in omega (arith, keep_split d xs))

-- sorted lists
module _ {A : Type 0} {R : A → A → Type 0} where
  pub sorted_append : {P Q : A → Type 0} → ((x y : A) → P x → Q y → R x y) → {xs ys : List A} → Sorted R xs → Sorted R ys → All P xs → All Q ys → Sorted R (xs ++ ys)
  sorted_append f sorted_nil t all_nil b = t
  sorted_append {P} {Q} f (sorted_cons {x} o s) t (all_cons p a) b = sorted_cons (all_append o (all_imp (λ y q. f x y p q) b)) (sorted_append {P = P} {Q = Q} f s t a b)

  pub sorted_right : (xs : List A) {ys : List A} → Sorted R (xs ++ ys) → Sorted R ys
  sorted_right [] s = s
  sorted_right (x ∷ xs) (sorted_cons o s) = sorted_right xs s

  pub sorted_across : (xs : List A) {y : A} (ys : List A) → Sorted R (xs ++ (y ∷ ys)) → All (λ x. R x y) xs
  sorted_across [] ys s = all_nil
  sorted_across (x ∷ xs) ys (sorted_cons o s) = all_cons (all_mem (all_right xs o) here) (sorted_across xs ys s)

  pub sorted_map : {B : Type 0} {S : B → B → Type 0} {P : A → Type 0} (f : A → B) → ((x y : A) → P x → P y → R x y → S (f x) (f y)) → {xs : List A} → All P xs → Sorted R xs → Sorted S (map f xs)
  sorted_map f h all_nil sorted_nil = sorted_nil
  sorted_map {S = S} {P = P} f h (all_cons {x} p a) (sorted_cons o s) = sorted_cons (all_map f (all_both (λ y q r. h x y p q r) a o)) (sorted_map {S = S} {P = P} f h a s)

  put_sorted : {P : Type 0} (d : Dec P) (x : A) {xs : List A} → All (R x) xs → Sorted R xs → Sorted R (put d x xs)
  unfolding put
  put_sorted (yes p) x o s = sorted_cons o s
  put_sorted (no p) x o s = s

  pub keep_sorted : {P : A → Type 0} (d : (x : A) → Dec (P x)) {xs : List A} → Sorted R xs → Sorted R (keep d xs)
  unfolding keep
  keep_sorted d sorted_nil = sorted_nil
  keep_sorted d (sorted_cons {x} o s) = put_sorted (d x) x (keep_all d o) (keep_sorted d s)

-- over an order that goes one way only
module _ {A : Type 0} {R : A → A → Type 0} (one_way : (x y : A) → R x y → R y x → ⊥) where
  -- a sorted list of copies of one element has at most one
  pub once : (r : A) (xs : List A) → Sorted R xs → All (λ x. x ≡ r) xs → length xs ≤ 1
  once r [] s a = omega arith
  once r (x ∷ []) s a = omega arith
  once r (x ∷ (y ∷ xs)) (sorted_cons (all_cons b c) s) (all_cons p (all_cons q a)) = let k : R x x = rw (q ∙ sym p) at b in absurd (one_way x x k k)

  head_or : {x y : A} {ys : List A} → All (R y) ys → Mem x (y ∷ ys) → (x ≡ y) ⊎ R y x
  head_or a (head e) = inl e
  head_or a (tail m) = inr (all_mem a m)

  heads : (x y : A) → (x ≡ y) ⊎ R y x → (y ≡ x) ⊎ R x y → x ≡ y
  heads x y (inl p) q = p
  heads x y (inr p) (inl q) = sym q
  heads x y (inr p) (inr q) = absurd (one_way x y q p)

  tail_sub : (x y : A) (xs ys : List A) → x ≡ y → All (R x) xs → Sub (x ∷ xs) (y ∷ ys) → Sub xs ys
  tail_sub x y xs ys e a s z m = go (all_mem a m) (s z (there m))
    where
      go : R x z → Mem z (y ∷ ys) → Mem z ys
      go b (head q) = absurd (let c : R x x = rw (q ∙ sym e) at b in one_way x x c c)
      go b (tail k) = k

  -- two sorted lists with the same elements are the same list
  pub sorted_same : (xs ys : List A) → Sorted R xs → Sorted R ys → Sub xs ys → Sub ys xs → xs ≡ ys
  sorted_same [] [] s t f g = refl
  sorted_same [] (y ∷ ys) s t f g = absurd (not_empty (g y here))
  sorted_same (x ∷ xs) [] s t f g = absurd (not_empty (f x here))
  sorted_same (x ∷ xs) (y ∷ ys) (sorted_cons a s) (sorted_cons b t) f g =
      let e : x ≡ y = heads x y (head_or b (f x here)) (head_or a (g y here)) in
      ap₂ ◌∷◌ e (sorted_same xs ys s t (tail_sub x y xs ys e a f) (tail_sub y x ys xs (sym e) b g))
