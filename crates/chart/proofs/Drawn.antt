-- What is drawn of the six kinds of a plan's parts, a stem once from the left and once from the right: each column ascends, each corner has one stretch of columns, level edges touch.
-- Rests on Umbrella.antt and Rim.antt.
use mathlib.Core.Path.{◌≡◌, sym, subst}
use mathlib.Core.List.{[], ◌∷◌}
use Prim.Native.Nat.{ℕ, suc, ◌+◌, ◌-◌, ◌*◌, ◌≤◌}
use native.Mathlib.Nat.{sub-zero}
use Rattle.polygon.specs.Polygon.{◌—◌}
use Rattle.polygon.specs.Tree.{Tree, span}
use Rattle.umbrella.specs.Plan.{Plan, LeftRim, RightRim, LeftGate, RightGate, Stem, levels}
use Rattle.umbrella.proofs.Low.{left_levels, right_levels, left_gate_levels, right_gate_levels, stem_levels}
use Rattle.chart.specs.Places.{cols, left_cols, right_cols, left_gate_cols, right_gate_cols, stem_cols, back_cols, rows, left_rows, right_rows, left_gate_rows, right_gate_rows, stem_rows}
use Rattle.chart.proofs.Cells.{Cell, δ, range}
use Rattle.chart.proofs.Block.{Block}
use Rattle.chart.proofs.Umbrella.{To, From, PieceDrawn}
use Rattle.chart.proofs.Rows.{Knows}
use Rattle.chart.proofs.Rim.{Rim, gate_cells}
use Rattle.chart.proofs.Flats.{flats, left_flats, right_flats, left_gate_flats, right_gate_flats, stem_flats, back_flats}

-- a piece, by its plan
abbrev pub OfPlan : {t : Tree} → Plan t → Type 1
OfPlan {t} p =
    (R : Cell → Type 0) (u v : ℕ) → u + span t ≡ v → R (u, 0) → R (v, 0) → Knows R (suc u) (rows p) → PieceDrawn (span t) u v (2 * levels p) R (cols p u v) (flats p u v)

-- the rim below c
abbrev pub OfLeft : {t : Tree} → LeftRim t → Type 1
OfLeft {t} A =
    (k m : ℕ) (R : Cell → Type 0) (f : ℕ → ℕ) (u v : ℕ) (X : Rim k m R u f) → u + span t ≡ v → 2 * left_levels A ≤ m
    → Knows R (suc u) (left_rows f A) → R (v, f 0)
    → Block k R (X.st (suc u), (u — suc u)) (X.st v, (u — v)) (range (suc (suc u)) (suc v)) (λ x. δ x u + range (suc u) (suc v) x) (left_cols A u v) (left_flats A u v)

-- the rim above c
abbrev pub OfRight : {t : Tree} → RightRim t → Type 1
OfRight {t} B =
    (k m : ℕ) (R : Cell → Type 0) (f : ℕ → ℕ) (u v w : ℕ) (X : Rim k m R v f) → u + span t ≡ v → suc w ≡ v → 2 * right_levels B ≤ m
    → R (u, f 0) → Knows R (suc u) (right_rows f B)
    → Block k R (X.st u, (u — v)) (X.st w, (w — v)) (range (suc u) v) (λ x. δ x v + range u v x) (right_cols B u v) (right_flats B u v)

-- a gate above c
abbrev pub OfRightGate : {t : Tree} → RightGate t → Type 1
OfRightGate {t} G =
    (k m : ℕ) (R : Cell → Type 0) (u v w : ℕ) → u + span t ≡ v → suc w ≡ v → m + 2 ≤ k → 2 * right_gate_levels G ≤ m
    → R (v, 0) → R (u, k - 0) → Knows R (suc u) (right_gate_rows (λ r. k - r) G)
    → To k R v ((v, 0) ∷ ((u, k) ∷ []), (u — v)) (range (suc u) v) (λ x. δ x v + range u v x) (right_gate_cols G u v) (right_gate_flats G u v)

-- a gate below c
abbrev pub OfLeftGate : {t : Tree} → LeftGate t → Type 1
OfLeftGate {t} G =
    (k m : ℕ) (R : Cell → Type 0) (u v : ℕ) → u + span t ≡ v → m + 2 ≤ k → 2 * left_gate_levels G ≤ m
    → R (u, 0) → Knows R (suc u) (left_gate_rows (λ r. k - r) G) → R (v, k - 0)
    → From k R u ((u, 0) ∷ ((v, k) ∷ []), (u — v)) (range (suc u) (suc v)) (λ x. δ x u + range (suc u) (suc v) x) (left_gate_cols G u v) (left_gate_flats G u v)

-- a stem from the left: p on row k, q on row 1
abbrev pub OfStem : {t : Tree} → Stem t → Type 1
OfStem {t} S =
    (k m : ℕ) (R : Cell → Type 0) (w p q : ℕ) → p + span t ≡ q → m + 2 ≤ k → 2 * stem_levels S ≤ m
    → R (w, 0) → R (p, k) → R (q, 1) → Knows R (suc p) (stem_rows suc (λ r. k - r) S)
    → To k R w (gate_cells k w q p, (p — q)) (range (suc p) q) (range p (suc q)) (stem_cols S p q) (stem_flats S p q)

-- a stem from the right: p on row 1, q on row k
abbrev pub OfBack : {t : Tree} → Stem t → Type 1
OfBack {t} S =
    (k m : ℕ) (R : Cell → Type 0) (w p q : ℕ) → p + span t ≡ q → m + 2 ≤ k → 2 * stem_levels S ≤ m
    → R (w, 0) → R (p, 1) → R (q, k) → Knows R (suc p) (stem_rows (λ r. k - r) suc S)
    → From k R w (gate_cells k w p q, (p — q)) (range p (suc q)) (range p (suc q)) (back_cols S p q) (back_flats S p q)

-- row k, as the row that a hung piece's row 0 becomes
pub row_k : (R : Cell → Type 0) (a k : ℕ) → R (a, k - 0) → R (a, k)
row_k R a k r = subst (λ (y : ℕ). R (a, y)) (sub-zero k) r

pub row_0 : (R : Cell → Type 0) (a k : ℕ) → R (a, k) → R (a, k - 0)
row_0 R a k r = subst (λ (y : ℕ). R (a, y)) (sym (sub-zero k)) r
