-- The plan `best` of a piece has exactly `ud` levels, and no plan of the piece has fewer.
-- Each step of its choice keeps within the bound d, if the choices below it do; rests on the lower bound of Low.antt.
use mathlib.Core.Path.{◌≡◌}
use Prim.Native.Nat.{ℕ, ◌≤◌, suc, min, max, zero-le, suc-le-suc}
use native.Mathlib.Nat.{le_refl, le_trans, le_antisymm}
use native.Mathlib.Decide.{dec_le}
use native.Mathlib.Omega.{arith}
use Rattle.polygon.specs.Tree.{Tree, leaf, node}
use Rattle.umbrella.specs.Plan.{Plan, LeftRim, RightRim, Stem, fold, levels}
use Rattle.umbrella.specs.Values.{ud, handle, fan_a, fan_b, partial_a, partial_b}
use Rattle.umbrella.specs.Best.{Over, Node, two, GateLeft, GateRight, Through, umbrella, left_at, right_at, stem_at, under, best, best_left, best_right, gate_left, gate_right, best_stem}
use Rattle.umbrella.proofs.Lattice.{max_lub, max_mono, max_swap, by_first, by_second}
use Rattle.umbrella.proofs.Low.{low, low_stem, left_levels, right_levels, left_gate_levels, right_gate_levels, stem_levels}

-- the choices of a gate and of a stem keep within d, where that can be
abbrev LeftWithin : (d : ℕ) (l r : Tree) → GateLeft d l r → Type 0
LeftWithin d l r G = (f : Over (fan_a l r) d) → partial_a l r ≤ d → left_gate_levels (G f) ≤ d

abbrev RightWithin : (d : ℕ) (l r : Tree) → GateRight d l r → Type 0
RightWithin d l r G = (f : Over (fan_b l r) d) → partial_b l r ≤ d → right_gate_levels (G f) ≤ d

abbrev StemWithin : (d : ℕ) (t : Tree) → Through t → Type 0
StemWithin d t S = (n : Node t) → handle t ≤ d → stem_levels (S n) ≤ d

umbrella_le : (d : ℕ) (l r : Tree) (h : Dec (fan_a l r ≤ d)) (k : Dec (fan_b l r ≤ d)) (A : LeftRim l) (B : RightRim r) (G : GateLeft d l r) (H : GateRight d l r)
    → under l r ≤ d → left_levels A ≤ fan_a l r → right_levels B ≤ fan_b l r → LeftWithin d l r G → RightWithin d l r H → levels (umbrella d l r h k A B G H) ≤ suc d
unfolding umbrella fold
umbrella_le d l r (yes h) (yes k) A B G H u a b g e = suc-le-suc (max_lub (le_trans a h) (le_trans b k))
umbrella_le d l r (no h) (yes k) A B G H u a b g e = let (i, j) = by_first (partial_a l r) (fan_b l r) (partial_b l r) (fan_a l r) d u (λ q. h q.1) in suc-le-suc (max_lub (g h i) (le_trans b j))
umbrella_le d l r h (no k) A B G H u a b g e = let (i, j) = by_second (partial_a l r) (fan_b l r) (partial_b l r) (fan_a l r) d u (λ q. k q.1) in suc-le-suc (max_lub (le_trans a j) (e k i))

left_at_le : (d : ℕ) (a b r : Tree) (f : Over (fan_a (node a b) r) d) (h : Dec (ud b ≤ d)) (A : LeftRim a) (p : Plan b) (G : GateLeft d a b) (S : Through b)
    → partial_a (node a b) r ≤ d → left_levels A ≤ fan_a a b → levels p ≤ ud b → LeftWithin d a b G → StemWithin d b S → left_gate_levels (left_at d a b r f h A p G S) ≤ d
unfolding left_at fold fan_a
left_at_le d a b r f (yes h) A p G S u x y g e = let (i, j) = by_first (partial_a a b) (ud b) (fan_a a b) (handle b) d u (λ q. f (max_lub q.0 h)) in max_lub (g _ i) (le_trans y j)
left_at_le d a b r f (no h) A p G S u x y g e = let (i, j) = by_second (partial_a a b) (ud b) (fan_a a b) (handle b) d u (λ q. h q.1) in max_lub (le_trans x i) (e _ j)

right_at_le : (d : ℕ) (l a b : Tree) (f : Over (fan_b l (node a b)) d) (h : Dec (ud a ≤ d)) (p : Plan a) (B : RightRim b) (G : GateRight d a b) (S : Through a)
    → partial_b l (node a b) ≤ d → levels p ≤ ud a → right_levels B ≤ fan_b a b → RightWithin d a b G → StemWithin d a S → right_gate_levels (right_at d l a b f h p B G S) ≤ d
unfolding right_at fold fan_b
right_at_le d l a b f (yes h) p B G S u x y g e = let (i, j) = by_first (partial_b a b) (ud a) (fan_b a b) (handle a) d u (λ q. f (max_lub q.0 h)) in max_lub (le_trans x j) (g _ i)
right_at_le d l a b f (no h) p B G S u x y g e = let (i, j) = by_second (partial_b a b) (ud a) (fan_b a b) (handle a) d u (λ q. h q.1) in max_lub (e _ j) (le_trans y i)

stem_at_le : (d : ℕ) (a b : Tree) (h : Dec (ud a ≤ d)) (k : Dec (ud b ≤ d)) (j : Dec (handle a ≤ d)) (p : Plan a) (q : Plan b) (S : Through a) (R : Through b)
    → min (max (handle a) (ud b)) (max (handle b) (ud a)) ≤ d → levels p ≤ ud a → levels q ≤ ud b → StemWithin d a S → StemWithin d b R → stem_levels (stem_at d a b h k j p q S R) ≤ d
unfolding stem_at fold
stem_at_le d leaf leaf h k j p q S R u x y s r = zero-le
stem_at_le d leaf (node z w) h (yes k) j p q S R u x y s r = le_trans y k
stem_at_le d leaf (node z w) h (no k) j p q S R u x y s r = let (i, m) = by_second (handle leaf) (ud (node z w)) (handle (node z w)) (ud leaf) d u (λ o. k o.1) in max_lub (le_trans x m) (r two i)
stem_at_le d (node z w) leaf (yes h) k j p q S R u x y s r = le_trans x h
stem_at_le d (node z w) leaf (no h) k j p q S R u x y s r = let (i, m) = by_first (handle (node z w)) (ud leaf) (handle leaf) (ud (node z w)) d u (λ o. h o.1) in max_lub (s two i) (le_trans y m)
stem_at_le d (node z w) (node z' w') h (yes k) (yes j) p q S R u x y s r = max_lub (s two j) (le_trans y k)
stem_at_le d (node z w) (node z' w') h (yes k) (no j) p q S R u x y s r = let (i, m) = by_second (handle (node z w)) (ud (node z' w')) (handle (node z' w')) (ud (node z w)) d u (λ o. j o.0) in max_lub (le_trans x m) (r two i)
stem_at_le d (node z w) (node z' w') h (no k) j p q S R u x y s r = let (i, m) = by_second (handle (node z w)) (ud (node z' w')) (handle (node z' w')) (ud (node z w)) d u (λ o. k o.1) in max_lub (le_trans x m) (r two i)

mutual
  unfolding ud best fold

  pub best_le : (t : Tree) → levels (best t) ≤ ud t
  best_le leaf = le_refl _
  best_le (node l r) =
      let d : ℕ = under l r in
      umbrella_le d l r (dec_le (fan_a l r) d) (dec_le (fan_b l r) d) (best_left l) (best_right r) (λ f. gate_left d l r f) (λ f. gate_right d l r f)
      (le_refl _) (left_le l r) (right_le l r) (λ f h. gate_left_le d l r f h) (λ f h. gate_right_le d l r f h)

  left_le : (l r : Tree) → left_levels (best_left l) ≤ fan_a l r
  left_le leaf r = le_refl _
  left_le (node a b) r = max_mono (left_le a b) (best_le b)

  right_le : (l r : Tree) → right_levels (best_right r) ≤ fan_b l r
  right_le l leaf = le_refl _
  right_le l (node a b) = max_swap (best_le a) (right_le a b)

  gate_left_le : (d : ℕ) (l r : Tree) (f : Over (fan_a l r) d) → partial_a l r ≤ d → left_gate_levels (gate_left d l r f) ≤ d
  gate_left_le d leaf r f h = absurd (f (omega arith))
  gate_left_le d (node a b) r f h =
      left_at_le d a b r f (dec_le (ud b) d) (best_left a) (best b) (λ g. gate_left d a b g) (λ n. best_stem d b n)
      h (left_le a b) (best_le b) (λ g k. gate_left_le d a b g k) (λ n k. stem_le d b n k)

  gate_right_le : (d : ℕ) (l r : Tree) (f : Over (fan_b l r) d) → partial_b l r ≤ d → right_gate_levels (gate_right d l r f) ≤ d
  gate_right_le d l leaf f h = absurd (f (omega arith))
  gate_right_le d l (node a b) f h =
      right_at_le d l a b f (dec_le (ud a) d) (best a) (best_right b) (λ g. gate_right d a b g) (λ n. best_stem d a n)
      h (best_le a) (right_le a b) (λ g k. gate_right_le d a b g k) (λ n k. stem_le d a n k)

  stem_le : (d : ℕ) (t : Tree) (n : Node t) → handle t ≤ d → stem_levels (best_stem d t n) ≤ d
  stem_le d leaf n h = elim n [ ]
  stem_le d (node a b) n h =
      stem_at_le d a b (dec_le (ud a) d) (dec_le (ud b) d) (dec_le (handle a) d) (best a) (best b) (λ m. best_stem d a m) (λ m. best_stem d b m)
      h (best_le a) (best_le b) (λ m k. stem_le d a m k) (λ m k. stem_le d b m k)

pub best_levels : (t : Tree) → levels (best t) ≡ ud t
best_levels t = le_antisymm (best_le t) (low (best t))

-- so it is with the stem through a piece that is not empty
pub least_stem : (t : Tree) (n : Node t) → (S : Stem t) × (stem_levels S ≡ handle t)
least_stem t n = (best_stem (handle t) t n, le_antisymm (stem_le (handle t) t n (le_refl _)) (low_stem (best_stem (handle t) t n)))

pub best_least : {t : Tree} (p : Plan t) → levels (best t) ≤ levels p
best_least {t} p = le_trans (best_le t) (low p)
