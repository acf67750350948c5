-- Lists by their places: the element at a place, all elements by their places, tables that are stored to; the numbers below n, what holds of each and of each two of them.
use mathlib.Core.Path.{◌≡◌, refl, sym, ◌∙◌, ap, ap₂, subst}
use mathlib.Core.List.{List, [], ◌∷◌, ◌++◌, map, map-append, reverse, reverse-cons}
use Prim.Native.Nat.{ℕ, zero, suc, ◌+◌, ◌≤◌, ◌<◌}
use native.Mathlib.Decide.{dec_lt, ℕ_discrete}
use native.Mathlib.Numerals.{add-one}
use native.Mathlib.Omega.{arith}
use lib.ListN.{length, take, get_or, set, replicate, length-reverse, length-set}
use lib.Seq.{take-suc, take-suc-set, get_or-set_same, get_or-set_other}
use Rattle.lists.specs.Lists.{Mem, head, tail, Nth, now, next, All, all_nil, all_cons, Sorted, sorted_nil, sorted_cons, numbers, below}
use Rattle.lists.proofs.Lists.{there, all_imp, all_mem, map_same}

module _ {A : Type 0} where
  pub nth_lt : {z : A} {j : ℕ} {l : List A} → Nth z j l → j < length l
  nth_lt (now e) = omega arith
  nth_lt (next n) = omega (arith, nth_lt n)

  pub nth_mem : {z : A} {j : ℕ} {l : List A} → Nth z j l → Mem z l
  nth_mem (now e) = head e
  nth_mem (next n) = tail (nth_mem n)

  pub mem_nth : {z : A} {l : List A} → Mem z l → (j : ℕ) × Nth z j l
  mem_nth (head e) = (0, now e)
  mem_nth (tail m) = let (j, n) = mem_nth m in (suc j, next n)

  pub nth_get_d : (l : List A) (j : ℕ) (d : A) → j < length l → Nth (get_or l j d) j l
  nth_get_d [] j d h = absurd (omega arith)
  nth_get_d (x ∷ l) zero d h = now refl
  nth_get_d (x ∷ l) (suc j) d h = next (nth_get_d l j d (omega arith))

  pub nth_at : (l : List A) (j : ℕ) → j < length l → (z : A) × Nth z j l
  nth_at [] j h = absurd (omega arith)
  nth_at (x ∷ l) zero h = (x, now refl)
  nth_at (x ∷ l) (suc j) h = let (z, n) = nth_at l j (omega arith) in (z, next n)

  nth_first : {z x : A} {l : List A} → Nth z 0 (x ∷ l) → z ≡ x
  nth_first (now e) = e

  nth_next : {z x : A} {j : ℕ} {l : List A} → Nth z (suc j) (x ∷ l) → Nth z j l
  nth_next (next n) = n

  pub nth_same : {z y : A} {j : ℕ} {l : List A} → Nth z j l → Nth y j l → z ≡ y
  nth_same (now e) m = e ∙ sym (nth_first m)
  nth_same (next n) m = nth_same n (nth_next m)

  pub nth_left : {z : A} {j : ℕ} {l : List A} (m : List A) → Nth z j l → Nth z j (l ++ m)
  nth_left m (now e) = now e
  nth_left m (next n) = next (nth_left m n)

  pub nth_right : {z : A} {j : ℕ} (l : List A) {m : List A} → Nth z j m → Nth z (length l + j) (l ++ m)
  nth_right {z} {j} [] {m} n = subst (λ i. Nth z i m) (omega arith) n
  nth_right {z} {j} (x ∷ l) {m} n = subst (λ i. Nth z i ((x ∷ l) ++ m)) (omega arith) (next (nth_right l n))

  -- element j from the left is element k from the right
  pub nth_reverse : {z : A} {j : ℕ} {l : List A} (k : ℕ) → suc (j + k) ≡ length l → Nth z j l → Nth z k (reverse l)
  nth_reverse {z} k h (now {x} {l} e) = subst (Nth z k) (sym (reverse-cons x l)) (subst (λ i. Nth z i (reverse l ++ (x ∷ []))) (omega (arith, length-reverse l)) (nth_right (reverse l) (now e)))
  nth_reverse {z} k h (next {j} {x} {l} n) = subst (Nth z k) (sym (reverse-cons x l)) (nth_left (x ∷ []) (nth_reverse k (omega arith) n))

module _ {A B : Type 0} (f : A → B) where
  pub nth_map : {z : A} {j : ℕ} {l : List A} → Nth z j l → Nth (f z) j (map f l)
  nth_map (now e) = now (ap f e)
  nth_map (next n) = next (nth_map n)

  pub nth_unmap : {y : B} {j : ℕ} (l : List A) → Nth y j (map f l) → (z : A) × Nth z j l × (y ≡ f z)
  nth_unmap [] n = elim n [ ]
  nth_unmap {j = zero} (x ∷ l) n = (x, now refl, nth_first n)
  nth_unmap {j = suc j} (x ∷ l) n = let (z, m, e) = nth_unmap l (nth_next n) in (z, next m, e)

-- a property of each element by its place
pub all_at : {A : Type 0} {Q : A → Type 0} (d : A) (l : List A) → ((j : ℕ) → j < length l → Q (get_or l j d)) → All Q l
all_at d [] f = all_nil
all_at d (x ∷ l) f = all_cons (f 0 (omega arith)) (all_at d l (λ j h. f (suc j) (omega arith)))

pub at_all : {A : Type 0} {Q : A → Type 0} (d : A) {l : List A} → All Q l → (j : ℕ) → j < length l → Q (get_or l j d)
at_all d all_nil j h = absurd (omega arith)
at_all d (all_cons q a) zero h = q
at_all d (all_cons q a) (suc j) h = at_all d a j (omega arith)

pub mem_at : (k : ℕ) (ks : List ℕ) → Mem k ks → (j : ℕ) × (j < length ks) × (get_or ks j 0 ≡ k)
mem_at k (x ∷ ks) (head e) = (0, omega arith, sym e)
mem_at k (x ∷ ks) (tail m) = let (j, h, e) = mem_at k ks m in (suc j, omega arith, e)
mem_at k [] x' = elim x' [ ]

-- what holds of the value stored and of the values at the other places
pub stored : (P : ℕ → Type 0) (l : List ℕ) (i v j : ℕ) → i < length l → (j ≡ i → P v) → ((j ≡ i → ⊥) → P (get_or l j 0)) → P (get_or (set l i v) j 0)
stored P l i v j h f g = go (ℕ_discrete j i)
  where
    go : Dec (j ≡ i) → P (get_or (set l i v) j 0)
    go (yes e) = rw (e, get_or-set_same l i v 0 h) (f e)
    go (no e) = rw (get_or-set_other l i j v 0 e) (g e)

-- a table that is filled place after place: what holds of the places before c holds of c too, once its value is stored
pub table_next : (f : ℕ → ℕ) (l : List ℕ) (c v : ℕ) → c < length l → v ≡ f c → ((i : ℕ) → i < c → get_or l i 0 ≡ f i) → (i : ℕ) → i < c + 1 → get_or (set l c v) i 0 ≡ f i
table_next f l c v h e t i k = stored (◌≡ f i) l c v i h (λ p. e ∙ ap f (sym p)) (λ p. t i (omega arith))

-- a table as it is made
pub blank : (n i : ℕ) → ◌≡◌ {A = ℕ} (get_or (replicate n 0) i 0) 0
blank zero i = refl
blank (suc n) zero = refl
blank (suc n) (suc i) = blank n i

-- the numbers below n
pub numbers_count : (k u : ℕ) → length (numbers k u) ≡ k
unfolding numbers
numbers_count zero u = refl
numbers_count (suc k) u = ap suc (numbers_count k (suc u))

pub numbers_in : (k u : ℕ) → All (λ x. (u ≤ x) × (x < u + k)) (numbers k u)
unfolding numbers
numbers_in zero u = all_nil
numbers_in (suc k) u = all_cons {x = u} (omega arith) (all_imp (λ x h. omega arith) (numbers_in k (suc u)))

pub numbers_sorted : (k u : ℕ) → Sorted ◌<◌ (numbers k u)
unfolding numbers
numbers_sorted zero u = sorted_nil
numbers_sorted (suc k) u = sorted_cons (all_imp (λ x h. h.0) (numbers_in k (suc u))) (numbers_sorted k (suc u))

pub numbers_mem : (k u x : ℕ) → u ≤ x → x < u + k → Mem x (numbers k u)
unfolding numbers
numbers_mem zero u x h i = absurd (omega arith)
numbers_mem (suc k) u x h i = go (dec_lt u x) (numbers_mem k (suc u) x)
  where
    go : Dec (u < x) → (suc u ≤ x → x < suc u + k → Mem x (numbers k (suc u))) → Mem x (u ∷ numbers k (suc u))
    go (yes p) f = there (f p (omega arith))
    go (no p) f = head {x = u} (omega arith)

pub below_count : (n : ℕ) → length (below n) ≡ n
unfolding below
below_count n = numbers_count n 0

pub below_sorted : (n : ℕ) → Sorted ◌<◌ (below n)
unfolding below
below_sorted n = numbers_sorted n 0

pub below_mem : (n x : ℕ) → x < n → Mem x (below n)
unfolding below
below_mem n x h = numbers_mem n 0 x (omega arith) (omega arith)

pub number_at : (k u i : ℕ) → i < k → get_or (numbers k u) i 0 ≡ u + i
unfolding numbers
number_at zero u i h = absurd (omega arith)
number_at (suc k) u zero h = omega arith
number_at (suc k) u (suc i) h = number_at k (suc u) i (omega arith) ∙ omega arith

-- place by place
pub below_at : {Q : ℕ → Type 0} {n : ℕ} → All Q (below n) → (x : ℕ) → x < n → Q x
below_at {n = n} a x h = all_mem a (below_mem n x h)

pub below_all : {Q : ℕ → Type 0} (n : ℕ) → ((x : ℕ) → x < n → Q x) → All Q (below n)
unfolding below
below_all n f = all_imp (λ x h. f x (omega arith)) (numbers_in n 0)

module _ {R : ℕ → ℕ → Type 0} where
  numbers_at : (k u : ℕ) → Sorted R (numbers k u) → (x y : ℕ) → u ≤ x → x < y → y < u + k → R x y
  unfolding numbers
  numbers_at zero u s x y h i j = absurd (omega arith)
  numbers_at (suc k) u (sorted_cons o s) x y h i j = go (dec_lt u x) (numbers_at k (suc u) s x y)
    where
      go : Dec (u < x) → (suc u ≤ x → x < y → y < suc u + k → R x y) → R x y
      go (yes p) f = f p i (omega arith)
      go (no p) f = let e : u ≡ x = omega arith in rw e at (all_mem o (numbers_mem k (suc u) y (omega arith) (omega arith)))

  numbers_sorted_by : (k u : ℕ) → ((x y : ℕ) → u ≤ x → x < y → y < u + k → R x y) → Sorted R (numbers k u)
  unfolding numbers
  numbers_sorted_by zero u f = sorted_nil
  numbers_sorted_by (suc k) u f = sorted_cons (all_imp (λ y h. f u y (omega arith) (omega arith) (omega arith)) (numbers_in k (suc u))) (numbers_sorted_by k (suc u) (λ x y h i j. f x y (omega arith) i (omega arith)))

  pub below_two : (n : ℕ) → Sorted R (below n) → (x y : ℕ) → x < y → y < n → R x y
  unfolding below
  below_two n s x y h i = numbers_at n 0 s x y (omega arith) h (omega arith)

  pub below_sorted_by : (n : ℕ) → ((x y : ℕ) → x < y → y < n → R x y) → Sorted R (below n)
  unfolding below
  below_sorted_by n f = numbers_sorted_by n 0 (λ x y h i j. f x y i (omega arith))

-- the numbers below i + 1
numbers_next : (k u : ℕ) → numbers (suc k) u ≡ numbers k u ++ ((u + k) ∷ [])
unfolding numbers
numbers_next zero u = ap (λ (x : ℕ). x ∷ []) (omega arith)
numbers_next (suc k) u =
    let e : suc u + k ≡ u + suc k = omega arith in
    ap (u ∷◌) (numbers_next k (suc u) ∙ ap (λ (x : ℕ). numbers k (suc u) ++ (x ∷ [])) e)

pub below_next : (i : ℕ) → below (suc i) ≡ below i ++ (i ∷ [])
unfolding below
below_next i = numbers_next i 0 ∙ ap (λ (x : ℕ). numbers i 0 ++ (x ∷ [])) (omega arith)

-- a list by a function of each place, and two functions that agree on each
pub map_places : {A B : Type 0} (g : A → B) (h : ℕ → B) (d : A) (l : List A) (u : ℕ) → ((i : ℕ) → i < length l → h (u + i) ≡ g (get_or l i d)) → map h (numbers (length l) u) ≡ map g l
unfolding numbers
map_places g h d [] u f = refl
map_places g h d (x ∷ l) u f =
    let e : u + 0 ≡ u = omega arith in
    ap₂ ◌∷◌ (rw e at (f 0 (omega arith)))
    (map_places g h d l (suc u) (λ i k. let q : u + suc i ≡ suc u + i = omega arith in rw q at (f (suc i) (omega arith))))

pub map_below : {B : Type 0} (g h : ℕ → B) (n : ℕ) → ((i : ℕ) → i < n → g i ≡ h i) → map g (below n) ≡ map h (below n)
unfolding below
map_below g h n f = map_same (all_imp (λ x k. f x (omega arith)) (numbers_in n 0))

-- one element more of a list under a function; and of a table that a loop fills with its values
pub map_next : {A B : Type 0} (f : A → B) (l : List A) (j : ℕ) (d : A) → j < length l → map f (take (j + 1) l) ≡ map f (take j l) ++ (f (get_or l j d) ∷ [])
map_next f l j d h = rw (add-one j, take-suc l j d h) (map-append f (take j l) (get_or l j d ∷ []))

pub mapped_next : {A B : Type 0} (f : A → B) (l : List A) (out : List B) (j : ℕ) (d : A) {v : B} → j < length l → j < length out → v ≡ f (get_or l j d) → take j out ≡ map f (take j l)
    → take (j + 1) (set out j v) ≡ map f (take (j + 1) l)
mapped_next f l out j d {v} h k e t = rw (add-one j, take-suc-set out j v k, t, e) (sym (rw (add-one j) at (map_next f l j d h)))

-- a table that a loop rewrites from the front: as long as it was, and from place j on as it was
pub record Ahead (first table : List ℕ) (j : ℕ) : Type 0 where
  pub kept : length table ≡ length first
  pub rest : (i : ℕ) → j ≤ i → get_or table i 0 ≡ get_or first i 0

pub ahead_first : (first : List ℕ) → Ahead first first 0
ahead_first first = record { kept = refl; rest = λ i h. refl }

pub ahead_next : {first table : List ℕ} {j : ℕ} (v : ℕ) → Ahead first table j → Ahead first (set table j v) (j + 1)
ahead_next {first} {table} {j} v A = record { kept = simp length-set A.kept; rest = λ i h. get_or-set_other table j i v 0 (λ e. omega arith) ∙ A.rest i (omega arith) }
