-- A plan has no more levels than umbrellas, no more stems than umbrellas, and fewer umbrellas than its piece has sides besides the root edge.
-- By recursion on the plan.
use Prim.Native.Nat.{ℕ, suc, ◌+◌, ◌≤◌, max}
use native.Mathlib.Omega.{arith}
use Rattle.polygon.specs.Tree.{Tree, span}
use Rattle.umbrella.specs.Plan.{Plan, none, plain, stem_left, stem_right, LeftRim, left_end, left_on, RightRim, right_end, right_on, LeftGate, left_gate, left_past, RightGate, right_gate}
use Rattle.umbrella.specs.Plan.{right_past, Stem, end_both, end_left, end_right, go_left, go_right, fold, fold_left, fold_right, fold_left_gate, fold_right_gate, fold_stem, levels, umbrellas, stems}

-- of n sides: l levels, u umbrellas, s stems
pub record Bounded (n l u s : ℕ) : Type 0 where
  pub umbrellas_few : suc u ≤ n
  pub levels_few : l ≤ u
  pub stems_few : s ≤ u

wider : {n l u s : ℕ} (m : ℕ) → n ≤ m → Bounded n l u s → Bounded m l u s
wider m h x = record { umbrellas_few = omega arith; levels_few = x.levels_few; stems_few = x.stems_few }

-- two together
both : {a b l u s l' u' s' : ℕ} → Bounded a l u s → Bounded b l' u' s' → Bounded (a + b) (max l l') (u + u') (s + s')
both x y = record { umbrellas_few = omega arith; levels_few = omega arith; stems_few = omega arith }

-- an umbrella without a stem, or with one, above them
bare : {a b l u s l' u' s' : ℕ} → Bounded a l u s → Bounded b l' u' s' → Bounded (a + b) (suc (max l l')) (suc (u + u')) (s + s')
bare x y = record { umbrellas_few = omega arith; levels_few = omega arith; stems_few = omega arith }

stemmed : {a b l u s l' u' s' : ℕ} → Bounded a l u s → Bounded b l' u' s' → Bounded (a + b) (suc (max l l')) (suc (u + u')) (suc (s + s'))
stemmed x y = record { umbrellas_few = omega arith; levels_few = omega arith; stems_few = omega arith }

mutual
  unfolding fold span

  pub bounds : {t : Tree} (p : Plan t) → Bounded (span t) (levels p) (umbrellas p) (stems p)
  bounds none = omega arith
  bounds (plain A B) = bare (left_bounds A) (right_bounds B)
  bounds (stem_left G B) = stemmed (left_gate_bounds G) (right_bounds B)
  bounds (stem_right A G) = stemmed (left_bounds A) (right_gate_bounds G)

  left_bounds : {t : Tree} (A : LeftRim t) → Bounded (span t) (fold_left max suc suc A) (fold_left ◌+◌ suc suc A) (fold_left ◌+◌ (λ n. n) suc A)
  left_bounds left_end = omega arith
  left_bounds (left_on A p) = both (left_bounds A) (bounds p)

  right_bounds : {t : Tree} (B : RightRim t) → Bounded (span t) (fold_right max suc suc B) (fold_right ◌+◌ suc suc B) (fold_right ◌+◌ (λ n. n) suc B)
  right_bounds right_end = omega arith
  right_bounds (right_on p B) = both (bounds p) (right_bounds B)

  left_gate_bounds : {t : Tree} (G : LeftGate t) → Bounded (span t) (fold_left_gate max suc suc G) (fold_left_gate ◌+◌ suc suc G) (fold_left_gate ◌+◌ (λ n. n) suc G)
  left_gate_bounds (left_gate A S) = both (left_bounds A) (stem_bounds S)
  left_gate_bounds (left_past G p) = both (left_gate_bounds G) (bounds p)

  right_gate_bounds : {t : Tree} (G : RightGate t) → Bounded (span t) (fold_right_gate max suc suc G) (fold_right_gate ◌+◌ suc suc G) (fold_right_gate ◌+◌ (λ n. n) suc G)
  right_gate_bounds (right_gate S B) = both (stem_bounds S) (right_bounds B)
  right_gate_bounds (right_past p G) = both (bounds p) (right_gate_bounds G)

  stem_bounds : {t : Tree} (S : Stem t) → Bounded (span t) (fold_stem max suc suc S) (fold_stem ◌+◌ suc suc S) (fold_stem ◌+◌ (λ n. n) suc S)
  stem_bounds end_both = omega arith
  stem_bounds (end_left p) = wider _ (omega arith) (bounds p)
  stem_bounds (end_right p) = wider _ (omega arith) (bounds p)
  stem_bounds (go_left S p) = both (stem_bounds S) (bounds p)
  stem_bounds (go_right p S) = both (bounds p) (stem_bounds S)
