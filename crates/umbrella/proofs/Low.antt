-- Every plan of a piece has at least `ud` levels.
-- Rests on the inequalities between the six values.
use Prim.Native.Nat.{ℕ, ◌≤◌, max, suc, zero-le, suc-le-suc}
use native.Mathlib.Nat.{le_refl, le_trans}
use native.Mathlib.Omega.{arith}
use Rattle.polygon.specs.Tree.{Tree}
use Rattle.umbrella.specs.Plan.{Plan, none, plain, stem_left, stem_right, LeftRim, left_end, left_on, RightRim, right_end, right_on, LeftGate, left_gate, left_past, RightGate}
use Rattle.umbrella.specs.Plan.{right_gate, right_past, Stem, end_both, end_left, end_right, go_left, go_right, fold, fold_left, fold_right, fold_left_gate, fold_right_gate, fold_stem, levels}
use Rattle.umbrella.specs.Values.{ud, handle, fan_a, fan_b, partial_a, partial_b}
use Rattle.umbrella.proofs.Lattice.{min_left, min_right, max_mono, max_swap, max_lub}
use Rattle.umbrella.proofs.Inequalities.{inequalities}

-- the most levels of the pieces hung on a rim, on a rim with a gate, beside a stem
abbrev pub left_levels : {t : Tree} → LeftRim t → ℕ
left_levels A = fold_left max suc suc A

abbrev pub right_levels : {t : Tree} → RightRim t → ℕ
right_levels B = fold_right max suc suc B

abbrev pub left_gate_levels : {t : Tree} → LeftGate t → ℕ
left_gate_levels G = fold_left_gate max suc suc G

abbrev pub right_gate_levels : {t : Tree} → RightGate t → ℕ
right_gate_levels G = fold_right_gate max suc suc G

abbrev pub stem_levels : {t : Tree} → Stem t → ℕ
stem_levels S = fold_stem max suc suc S

mutual
  unfolding ud fold

  pub low : {t : Tree} (p : Plan t) → ud t ≤ levels p
  low none = le_refl _
  low (plain {l} {r} A B) = suc-le-suc (min_left _ (max_mono (le_trans (inequalities l r).partial_a_fan_a (low_left A r)) (low_right l B)))
  low (stem_left {l} {r} G B) = suc-le-suc (min_left _ (max_mono (low_left_gate G r) (low_right l B)))
  low (stem_right {l} {r} A G) = suc-le-suc (min_right _ (max_swap (low_right_gate l G) (low_left A r)))

  pub low_left : {l : Tree} (A : LeftRim l) (r : Tree) → fan_a l r ≤ left_levels A
  low_left left_end r = le_refl _
  low_left (left_on {a} {b} A p) r = max_mono (low_left A b) (low p)

  pub low_right : {r : Tree} (l : Tree) (B : RightRim r) → fan_b l r ≤ right_levels B
  low_right l right_end = le_refl _
  low_right l (right_on {a} p B) = max_swap (low_right a B) (low p)

  low_left_gate : {l : Tree} (G : LeftGate l) (r : Tree) → partial_a l r ≤ left_gate_levels G
  low_left_gate (left_gate {a} {b} A S) r = min_right _ (max_mono (low_left A b) (low_stem S))
  low_left_gate (left_past {a} {b} G p) r = min_left _ (max_mono (low_left_gate G b) (low p))

  low_right_gate : {r : Tree} (l : Tree) (G : RightGate r) → partial_b l r ≤ right_gate_levels G
  low_right_gate l (right_gate {a} S B) = min_right _ (max_swap (low_right a B) (low_stem S))
  low_right_gate l (right_past {a} p G) = min_left _ (max_swap (low_right_gate a G) (low p))

  pub low_stem : {t : Tree} (S : Stem t) → handle t ≤ stem_levels S
  low_stem end_both = omega arith
  low_stem (end_left p) = min_left _ (max_lub zero-le (low p))
  low_stem (end_right p) = min_right _ (max_lub zero-le (low p))
  low_stem (go_left S p) = min_left _ (max_mono (low_stem S) (low p))
  low_stem (go_right p S) = min_right _ (max_swap (low_stem S) (low p))
