-- The label of each column in a run of a corner: 0 before its bar, 1 on it, 2 after it.
-- Rests on Runs.antt and the laws of places of the crate lists.
use mathlib.Core.Path.{◌≡◌, sym, subst}
use mathlib.Core.List.{List}
use Prim.Native.Nat.{ℕ, zero, suc, ◌≤◌}
use native.Mathlib.Omega.{arith}
use Rattle.chart.proofs.Cells.{num}
use Rattle.chart.proofs.Runs.{Col, At, Run, stop, go}
use Rattle.lists.specs.Lists.{Nth, next, now}

pub lab : {x s t : ℕ} {L : List Col} → Run x s L t → ℕ → ℕ
lab {t = t} (stop h) j = t
lab (go l h a r) zero = l
lab (go l h a r) (suc j) = lab r j

run_le : {x s t : ℕ} {L : List Col} → Run x s L t → s ≤ t
run_le (stop h) = h
run_le (go l h a r) = omega (arith, run_le r)

pub lab_low : {x s t : ℕ} {L : List Col} (r : Run x s L t) (j : ℕ) → s ≤ lab r j
unfolding lab
lab_low (stop h) j = h
lab_low (go l h a r) zero = h
lab_low (go l h a r) (suc j) = omega (arith, lab_low r j)

pub lab_high : {x s t : ℕ} {L : List Col} (r : Run x s L t) (j : ℕ) → lab r j ≤ t
unfolding lab
lab_high (stop h) j = omega arith
lab_high (go l h a r) zero = run_le r
lab_high (go l h a r) (suc j) = lab_high r j

pub lab_mono : {x s t : ℕ} {L : List Col} (r : Run x s L t) (j k : ℕ) → j ≤ k → lab r j ≤ lab r k
unfolding lab
lab_mono (stop h) j k o = omega arith
lab_mono (go l h a r) zero zero o = omega arith
lab_mono (go l h a r) zero (suc k) o = lab_low r k
lab_mono (go l h a r) (suc j) zero o = absurd (omega arith)
lab_mono (go l h a r) (suc j) (suc k) o = lab_mono r j k (omega arith)

lab_at : {x s t j : ℕ} {c : Col} {L : List Col} (r : Run x s L t) → Nth c j L → At (lab r j) (num x c.0)
unfolding lab
lab_at {x} (go l h a r) (now e) = subst (λ (d : Col). At l (num x d.0)) (sym e) a
lab_at (go l h a r) (next n) = lab_at r n
lab_at (stop h) n = elim n [ ]

-- label 1 and having a cell are the same
pub lab_one : {x s t j : ℕ} {c : Col} {L : List Col} (r : Run x s L t) → Nth c j L → 1 ≤ num x c.0 → lab r j ≡ 1
lab_one {x} {j = j} {c} r n h = let a : At (lab r j) (num x c.0) = lab_at r n in omega arith

pub lab_has : {x s t j : ℕ} {c : Col} {L : List Col} (r : Run x s L t) → Nth c j L → lab r j ≡ 1 → 1 ≤ num x c.0
lab_has {x} {j = j} {c} r n h = let a : At (lab r j) (num x c.0) = lab_at r n in omega arith
