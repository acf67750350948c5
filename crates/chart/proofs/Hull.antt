-- The first and the last column of a corner's uprights, and that a bar holds all of them.
-- Rests on the laws of places of the crate lists.
use mathlib.Core.Path.{◌≡◌, refl, subst}
use mathlib.Core.List.{List, [], ◌∷◌, ◌++◌, reverse, reverse-reverse}
use Prim.Native.Nat.{ℕ, suc, ◌-◌, ◌≤◌, ◌+◌}
use native.Mathlib.Decide.{dec_le, ℕ_discrete}
use native.Mathlib.Omega.{arith}
use lib.ListN.{length, length-reverse}
use Rattle.lists.specs.Lists.{Mem, choose, head, tail, Nth, next, now}
use Rattle.lists.proofs.Lists.{mem_left, mem_right, mem_reverse}
use Rattle.lists.proofs.Places.{nth_lt, nth_reverse}
use Rattle.polygon.specs.Polygon.{Edge}
use Rattle.chart.specs.Chart.{Meets, meets?, first, last}

-- x has an upright among us
abbrev pub Served : ℕ → List Edge → Type 0
Served x us = (e : Edge) × Mem e us × Meets x e

pub served_both : {x : ℕ} {us vs : List Edge} (m n : ℕ) → (1 ≤ m → Served x us) → (1 ≤ n → Served x vs) → 1 ≤ m + n → Served x (us ++ vs)
served_both {x} {us} {vs} m n f g h = pick (dec_le 1 m)
  where
    pick : Dec (1 ≤ m) → Served x (us ++ vs)
    pick (yes k) = let (e, i, j) = f k in (e, mem_left vs i, j)
    pick (no k) = let (e, i, j) = g (omega arith) in (e, mem_right us i, j)

pub served_reverse : {x : ℕ} {us : List Edge} → Served x us → Served x (reverse us)
served_reverse s = (s.0, mem_reverse s.1, s.2)

module _ (x : ℕ) where
  pub first_le : (e : Edge) (j : ℕ) {us : List Edge} → Nth e j us → Meets x e → first x us ≤ j
  unfolding first choose
  first_le e j (now {x = f} {l} h) m = pick (meets? x f)
    where
      pick : (k : Dec (Meets x f)) → choose k 0 (suc (first x l)) ≤ 0
      pick (yes k) = omega arith
      pick (no k) = absurd (k (subst (Meets x) h m))
  first_le e j (next {j = i} {x = f} {l} n) m = pick (meets? x f) (first_le e i n m)
    where
      pick : (k : Dec (Meets x f)) → first x l ≤ i → choose k 0 (suc (first x l)) ≤ suc i
      pick (yes k) h = omega arith
      pick (no k) h = omega arith

  pub first_at : (us : List Edge) → Served x us → (e : Edge) × Nth e (first x us) us × Meets x e
  unfolding first choose
  first_at [] s = elim s.1 [ ]
  first_at (e ∷ us) s = pick (meets? x e) s (first_at us)
    where
      pick : (k : Dec (Meets x e)) → Served x (e ∷ us) → (Served x us → (f : Edge) × Nth f (first x us) us × Meets x f) → (f : Edge) × Nth f (choose k 0 (suc (first x us))) (e ∷ us) × Meets x f
      pick (yes k) t f = (e, now refl, k)
      pick (no k) (g, head h, m) f = absurd (k (subst (Meets x) h m))
      pick (no k) (g, tail i, m) f = let (d, n, j) = f (g, i, m) in (d, next n, j)

  pub last_ge : (j : ℕ) (e : Edge) {us : List Edge} → Nth e j us → Meets x e → j ≤ last x us
  unfolding last
  last_ge j e {us} n m = omega (arith, nth_lt n, first_le e ((length us - 1) - j) (nth_reverse ((length us - 1) - j) (omega (arith, nth_lt n)) n) m)

  pub last_at : (us : List Edge) → Served x us → (e : Edge) × Nth e (last x us) us × Meets x e
  unfolding last
  last_at us s =
      let (e, n, m) = first_at (reverse us) (served_reverse s) in
      (e, subst (Nth e ((length us - 1) - first x (reverse us))) (reverse-reverse us) (nth_reverse ((length us - 1) - first x (reverse us)) (omega (arith, nth_lt n, length-reverse us)) n), m)

  -- corner 0's bar starts in the first column, and corner v's ends in the last
  pub left_le : (j : ℕ) (e : Edge) {us : List Edge} → Nth e j us → Meets x e → choose (ℕ_discrete x 0) 0 (first x us) ≤ j
  unfolding choose
  left_le j e {us} n m = pick (ℕ_discrete x 0)
    where
      pick : (k : Dec (x ≡ 0)) → choose k 0 (first x us) ≤ j
      pick (yes k) = omega arith
      pick (no k) = first_le e j n m

  pub right_ge : (v j : ℕ) (e : Edge) {us : List Edge} → Nth e j us → Meets x e → j ≤ choose (ℕ_discrete x v) (length us - 1) (last x us)
  unfolding choose
  right_ge v j e {us} n m = pick (ℕ_discrete x v)
    where
      pick : (k : Dec (x ≡ v)) → j ≤ choose k (length us - 1) (last x us)
      pick (yes k) = omega (arith, nth_lt n)
      pick (no k) = last_ge j e n m
