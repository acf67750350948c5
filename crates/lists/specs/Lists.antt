-- Words about lists that every definition uses: membership, "all of them", sorted, the ones that pass a test, how often; and decisions about them.
-- Their laws are in proofs/Lists.antt.
use Rattle.std.specs.Prelude.{◌≡◌, ◌⊎◌, List, [], ◌∷◌, ℕ, zero, suc, ◌+◌}
use Rattle.std.proofs.Common.{inl, inr}
use Rattle.std.proofs.Math.Logic.Dec.{and as dec_and}

-- z is in the list
pub data Mem {A : Type 0} (z : A) : List A → Type 0 where
  head : {x : A} {l : List A} → z ≡ x → Mem z (x ∷ l)
  tail : {x : A} {l : List A} → Mem z l → Mem z (x ∷ l)

-- z is element j of the list
pub data Nth {A : Type 0} (z : A) : ℕ → List A → Type 0 where
  now : {x : A} {l : List A} → z ≡ x → Nth z 0 (x ∷ l)
  next : {j : ℕ} {x : A} {l : List A} → Nth z j l → Nth z (suc j) (x ∷ l)

-- all of the first are in the second
abbrev pub Sub : {A : Type 0} → List A → List A → Type 0
Sub {A} xs ys = (x : A) → Mem x xs → Mem x ys

-- each element has the property
pub data All {A : Type 0} (Q : A → Type 0) : List A → Type 0 where
  all_nil : All Q []
  all_cons : {x : A} {l : List A} → Q x → All Q l → All Q (x ∷ l)

-- each element stands in R to all later ones
pub data Sorted {A : Type 0} (R : A → A → Type 0) : List A → Type 0 where
  sorted_nil : Sorted R []
  sorted_cons : {x : A} {xs : List A} → All (R x) xs → Sorted R xs → Sorted R (x ∷ xs)

-- one of two values, by a decision
unfoldable pub choose : {A P : Type 0} → Dec P → A → A → A
choose (yes p) x y = x
choose (no p) x y = y

-- the elements that pass a test
unfoldable pub put : {A P : Type 0} → Dec P → A → List A → List A
put (yes p) x xs = x ∷ xs
put (no p) x xs = xs

unfoldable pub keep : {A : Type 0} {P : A → Type 0} → ((x : A) → Dec (P x)) → List A → List A
keep d [] = []
keep d (x ∷ xs) = put (d x) x (keep d xs)

-- k numbers from u on, and the numbers below n
unfoldable pub numbers : ℕ → ℕ → List ℕ
numbers zero u = []
numbers (suc k) u = u ∷ numbers k (suc u)

unfoldable pub below : ℕ → List ℕ
below n = numbers n 0

-- how often an element stands in a list: 1 for each decision that is yes
unfoldable pub times : {P : Type 0} → Dec P → ℕ
times (yes p) = 1
times (no p) = 0

unfoldable pub occurs : {A : Type 0} → ((x y : A) → Dec (x ≡ y)) → A → List A → ℕ
occurs d x [] = 0
occurs d x (y ∷ ys) = times (d x y) + occurs d x ys

-- decisions: not, or, all, sorted, in the list
unfoldable pub not? : {A : Type 0} → Dec A → Dec (¬ A)
not? (yes a) = no (λ f. f a)
not? (no f) = yes f

unfoldable pub either? : {A B : Type 0} → Dec A → Dec B → Dec (A ⊎ B)
either? (yes a) e = yes (inl a)
either? (no f) (yes b) = yes (inr b)
either? (no f) (no g) = no (λ s. elim s [ inl a ↦ f a | inr b ↦ g b ])

unfoldable pub all? : {A : Type 0} {Q : A → Type 0} → ((x : A) → Dec (Q x)) → (xs : List A) → Dec (All Q xs)
all? {A} {Q} d [] = yes all_nil
all? {A} {Q} d (x ∷ xs) = step (d x) (all? d xs)
  where
    first_of : {y : A} {ys : List A} → All Q (y ∷ ys) → Q y
    first_of (all_cons q a) = q

    rest_of : {y : A} {ys : List A} → All Q (y ∷ ys) → All Q ys
    rest_of (all_cons q a) = a

    step : Dec (Q x) → Dec (All Q xs) → Dec (All Q (x ∷ xs))
    step (yes q) (yes a) = yes (all_cons q a)
    step (yes q) (no f) = no (λ a. f (rest_of a))
    step (no f) k = no (λ a. f (first_of a))

unfoldable pub sorted? : {A : Type 0} {R : A → A → Type 0} → ((x y : A) → Dec (R x y)) → (xs : List A) → Dec (Sorted R xs)
sorted? {A} {R} d [] = yes sorted_nil
sorted? {A} {R} d (x ∷ xs) = step (all? (d x) xs) (sorted? d xs)
  where
    first_of : {y : A} {ys : List A} → Sorted R (y ∷ ys) → All (R y) ys
    first_of (sorted_cons a s) = a

    rest_of : {y : A} {ys : List A} → Sorted R (y ∷ ys) → Sorted R ys
    rest_of (sorted_cons a s) = s

    step : Dec (All (R x) xs) → Dec (Sorted R xs) → Dec (Sorted R (x ∷ xs))
    step (yes a) (yes s) = yes (sorted_cons a s)
    step (yes a) (no f) = no (λ s. f (rest_of s))
    step (no f) k = no (λ s. f (first_of s))

unfoldable pub mem? : {A : Type 0} → ((x y : A) → Dec (x ≡ y)) → (x : A) (xs : List A) → Dec (Mem x xs)
mem? d x [] = no (λ m. elim m [ ])
mem? d x (y ∷ ys) = step (d x y) (mem? d x ys)
  where
    cases : {z : _} {l : List _} → Mem x (z ∷ l) → (x ≡ z) ⊎ Mem x l
    cases (head e) = inl e
    cases (tail m) = inr m

    step : Dec (x ≡ y) → Dec (Mem x ys) → Dec (Mem x (y ∷ ys))
    step (yes e) k = yes (head e)
    step (no f) (yes m) = yes (tail m)
    step (no f) (no g) = no (λ m. elim (cases m) [ inl e ↦ f e | inr k ↦ g k ])

-- for a statement that says the same; three together
unfoldable pub recast? : {A B : Type 0} → (A → B) → (B → A) → Dec A → Dec B
recast? f g (yes a) = yes (f a)
recast? f g (no h) = no (λ b. h (g b))

unfoldable pub three? : {A B C : Type 0} → Dec A → Dec B → Dec C → Dec (A × B × C)
three? a b c = recast? (λ h. (h.0, h.1.0, h.1.1)) (λ h. (h.0, (h.1, h.2))) (dec_and a (dec_and b c))
