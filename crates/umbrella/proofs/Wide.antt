-- A piece that needs D levels has at least 2 ^ (D + 1) - 2 sides besides its root edge; so a polygon of at most 1,024 corners needs at most 9.
-- By recursion on the piece, with a bound of the same kind for each of the six values.
use Prim.Native.Nat.{ℕ, zero, suc, ◌+◌, ◌^◌, ◌≤◌, min, max}
use native.Mathlib.Decide.{dec_le}
use native.Mathlib.Nat.{le_refl}
use native.Mathlib.Omega.{arith}
use Rattle.polygon.specs.Tree.{Tree, leaf, node, span}
use Rattle.polygon.proofs.Chords.{span_pos}
use Rattle.umbrella.specs.Values.{ud, handle, fan_a, fan_b, partial_a, partial_b}

-- k is within the larger of two
by_max : (k x y : ℕ) {N M : ℕ} → k ≤ max x y → (k ≤ x → N ≤ M) → (k ≤ y → N ≤ M) → N ≤ M
by_max k x y {N} {M} h f g = go (dec_le k x)
  where
    go : Dec (k ≤ x) → N ≤ M
    go (yes p) = f p
    go (no p) = g (omega arith)

-- k is within the smaller of two: within x, or within z, or within both y and w
by_min : (k x y z w : ℕ) {N M : ℕ} → k ≤ min (max x y) (max z w) → (k ≤ x → N ≤ M) → (k ≤ z → N ≤ M) → (k ≤ y → k ≤ w → N ≤ M) → N ≤ M
by_min k x y z w {N} {M} h f g both = go (dec_le k x) (dec_le k z)
  where
    go : Dec (k ≤ x) → Dec (k ≤ z) → N ≤ M
    go (yes p) q = f p
    go (no p) (yes q) = g q
    go (no p) (no q) = both (omega arith) (omega arith)

-- t is one of the two parts of a piece, s the other, as in Inequalities.antt
record Wide (t s : Tree) : Type 0 where
  of_ud : (k : ℕ) → k ≤ ud t → 2 ^ suc k ≤ span t + 2
  of_handle : (k : ℕ) → k ≤ handle t → 2 ^ suc (suc k) ≤ span t + 4
  of_fan_a : (k : ℕ) → k ≤ fan_a t s → 2 ^ suc k ≤ span t + 1
  of_fan_b : (k : ℕ) → k ≤ fan_b s t → 2 ^ suc k ≤ span t + 1
  of_partial_a : (k : ℕ) → k ≤ partial_a t s → 2 ^ suc (suc k) ≤ span t + 3
  of_partial_b : (k : ℕ) → k ≤ partial_b s t → 2 ^ suc (suc k) ≤ span t + 3

-- a bound at 0 holds at every k ≤ 0
at_zero : (f : ℕ → ℕ) (k N : ℕ) → k ≤ 0 → f 0 ≤ N → f k ≤ N
at_zero f zero N h i = i
at_zero f (suc k) N h i = absurd (omega arith)

wide_ud : (l r : Tree) → Wide l r → Wide r l → (k : ℕ) → k ≤ ud (node l r) → 2 ^ suc k ≤ span (node l r) + 2
unfolding ud span
wide_ud l r a b zero h = let i = span_pos l in omega arith
wide_ud l r a b (suc k) h =
    by_min k (partial_a l r) (fan_b l r) (partial_b l r) (fan_a l r) (omega arith)
    (λ i. omega (arith, a.of_partial_a k i, span_pos r))
    (λ i. omega (arith, b.of_partial_b k i, span_pos l))
    (λ i j. omega (arith, b.of_fan_b k i, a.of_fan_a k j))

wide : (t s : Tree) → Wide t s
unfolding ud span
wide leaf s = record {
  of_ud = λ k i. at_zero (λ j. 2 ^ suc j) k _ i (omega arith);
  of_handle = λ k i. at_zero (λ j. 2 ^ suc (suc j)) k _ i (omega arith);
  of_fan_a = λ k i. at_zero (λ j. 2 ^ suc j) k _ i (omega arith);
  of_fan_b = λ k i. at_zero (λ j. 2 ^ suc j) k _ i (omega arith);
  of_partial_a = λ k i. at_zero (λ j. 2 ^ suc (suc j)) k _ i (omega arith);
  of_partial_b = λ k i. at_zero (λ j. 2 ^ suc (suc j)) k _ i (omega arith);
}
wide (node l r) s =
    let a : Wide l r = wide l r in
    let b : Wide r l = wide r l in
    let p : 1 ≤ span l = span_pos l in
    let q : 1 ≤ span r = span_pos r in
    record {
      of_ud = wide_ud l r a b;
      of_handle = λ k i. by_min k (handle l) (ud r) (handle r) (ud l) i (λ j. omega (arith, a.of_handle k j)) (λ j. omega (arith, b.of_handle k j)) (λ j m. omega (arith, b.of_ud k j, a.of_ud k m));
      of_fan_a = λ k i. by_max k (fan_a l r) (ud r) i (λ j. omega (arith, a.of_fan_a k j)) (λ j. omega (arith, b.of_ud k j));
      of_fan_b = λ k i. by_max k (fan_b l r) (ud l) i (λ j. omega (arith, b.of_fan_b k j)) (λ j. omega (arith, a.of_ud k j));
      of_partial_a = λ k i. by_min k (partial_a l r) (ud r) (handle r) (fan_a l r) (omega arith) (λ j. omega (arith, a.of_partial_a k j)) (λ j. omega (arith, b.of_handle k j)) (λ j m. omega (arith, b.of_ud k j, a.of_fan_a k m));
      of_partial_b = λ k i. by_min k (partial_b l r) (ud l) (handle l) (fan_b l r) (omega arith) (λ j. omega (arith, b.of_partial_b k j)) (λ j. omega (arith, a.of_handle k j)) (λ j m. omega (arith, a.of_ud k j, b.of_fan_b k m));
    }

pub span_bound : (t : Tree) → 2 ^ suc (ud t) ≤ span t + 2
span_bound t = (wide t leaf).of_ud (ud t) (le_refl _)

-- 1,024 corners are a span of 1,023
pub nine : (t : Tree) → span t ≤ 1023 → ud t ≤ 9
nine t h = go (dec_le (ud t) 9)
  where
    go : Dec (ud t ≤ 9) → ud t ≤ 9
    go (yes k) = k
    go (no k) = absurd (omega (arith, (wide t leaf).of_ud 10 (omega arith)))
