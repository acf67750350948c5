-- How often an element stands in a list: over append, reverse and flatten, beside membership, and at most once in a sorted list.
use mathlib.Core.Path.{◌≡◌, refl, sym, ◌∙◌, ap, subst}
use mathlib.Core.List.{List, [], ◌∷◌, ◌++◌, reverse, reverse-cons, flatten}
use Prim.Native.Nat.{◌+◌, ◌≤◌}
use native.Mathlib.Omega.{arith}
use Rattle.lists.specs.Lists.{Mem, head, tail, All, all_nil, all_cons, Sorted, sorted_nil, sorted_cons, times, occurs}

pub times_yes : {P : Type 0} (k : Dec P) → P → times k ≡ 1
unfolding times
times_yes (yes p) h = refl
times_yes (no f) h = absurd (f h)

-- two decisions of statements that say the same
pub times_same : {P Q : Type 0} (k : Dec P) (m : Dec Q) → (P → Q) → (Q → P) → times k ≡ times m
unfolding times
times_same (yes p) (yes q) f g = refl
times_same (yes p) (no q) f g = absurd (q (f p))
times_same (no p) (yes q) f g = absurd (p (g q))
times_same (no p) (no q) f g = refl

module _ {A : Type 0} (d : (x y : A) → Dec (x ≡ y)) (x : A) where
  pub occurs_append : (s t : List A) → occurs d x (s ++ t) ≡ occurs d x s + occurs d x t
  unfolding occurs
  occurs_append [] t = omega arith
  occurs_append (y ∷ s) t = omega (arith, occurs_append s t)

  pub occurs_reverse : (l : List A) → occurs d x (reverse l) ≡ occurs d x l
  unfolding occurs
  occurs_reverse [] = refl
  occurs_reverse (y ∷ l) = ap (occurs d x) (reverse-cons y l) ∙ omega (arith, occurs_append (reverse l) (y ∷ []), occurs_reverse l)

  pub occurs_flatten : (s t : List (List A)) → occurs d x (flatten (s ++ t)) ≡ occurs d x (flatten s) + occurs d x (flatten t)
  unfolding flatten occurs
  occurs_flatten [] t = omega arith
  occurs_flatten (l ∷ s) t = omega (arith, occurs_append l (flatten (s ++ t)), occurs_append l (flatten s), occurs_flatten s t)

  pub mem_occurs : {l : List A} → Mem x l → 1 ≤ occurs d x l
  unfolding occurs
  mem_occurs (head {x = y} {l} e) = omega (arith, times_yes (d x y) e)
  mem_occurs (tail {x = y} {l} m) = omega (arith, mem_occurs m)

  pub occurs_mem : (l : List A) → 1 ≤ occurs d x l → Mem x l
  unfolding occurs times
  occurs_mem [] h = absurd (omega arith)
  occurs_mem (y ∷ l) h = go (d x y) (occurs_mem l) h
    where
      go : (k : Dec (x ≡ y)) → (1 ≤ occurs d x l → Mem x l) → 1 ≤ times k + occurs d x l → Mem x (y ∷ l)
      go (yes e) f i = head e
      go (no n) f i = tail (f (omega arith))

  module _ (R : A → A → Type 0) (not_itself : (y : A) → R y y → ⊥) where
    occurs_none : {y : A} {l : List A} → x ≡ y → All (R y) l → occurs d x l ≡ 0
    unfolding occurs times
    occurs_none e all_nil = refl
    occurs_none {y} e (all_cons {x = z} {l} r a) = go (d x z) (occurs_none e a)
      where
        go : (k : Dec (x ≡ z)) → occurs d x l ≡ 0 → times k + occurs d x l ≡ 0
        go (yes g) h = absurd (not_itself y (subst (R y) (sym g ∙ e) r))
        go (no n) h = omega arith

    pub occurs_once : {l : List A} → Sorted R l → occurs d x l ≤ 1
    unfolding occurs times
    occurs_once sorted_nil = omega arith
    occurs_once (sorted_cons {x = y} {xs = l} a s) = go (d x y) (occurs_once s)
      where
        go : (k : Dec (x ≡ y)) → occurs d x l ≤ 1 → times k + occurs d x l ≤ 1
        go (yes e) h = omega (arith, occurs_none e a)
        go (no n) h = omega arith
