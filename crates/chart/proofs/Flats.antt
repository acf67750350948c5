-- The level edges of a piece, its root edge excepted: the edges that are no column's upright. Only proofs speak of them; the chart has every edge that is not upright as level.
use mathlib.Core.List.{List, [], ◌∷◌, ◌++◌}
use Prim.Native.Nat.{ℕ, suc, ◌+◌}
use Rattle.polygon.specs.Polygon.{Edge, ◌—◌}
use Rattle.polygon.specs.Tree.{Tree, node, span}
use Rattle.umbrella.specs.Plan.{Plan, none, plain, stem_left, stem_right, LeftRim, left_end, left_on, RightRim, right_end, right_on, LeftGate, left_gate, left_past, RightGate, right_gate, right_past, Stem, end_both, end_left, end_right, go_left, go_right}

unfoldable mutual
  pub flats : {t : Tree} → Plan t → ℕ → ℕ → List Edge
  flats none u v = []
  flats (plain {l} A B) u v = left_flats A u (u + span l) ++ right_flats B (u + span l) v
  flats (stem_right {l} A G) u v = left_flats A u (u + span l) ++ right_gate_flats G (u + span l) v
  flats (stem_left {l} G B) u v = left_gate_flats G u (u + span l) ++ right_flats B (u + span l) v

  pub left_flats : {t : Tree} → LeftRim t → ℕ → ℕ → List Edge
  left_flats left_end u v = []
  left_flats (left_on {a} A p) u v = left_flats A u (u + span a) ++ (((u + span a) — v) ∷ (flats p (u + span a) v ++ []))

  pub right_flats : {t : Tree} → RightRim t → ℕ → ℕ → List Edge
  right_flats right_end u v = []
  right_flats (right_on {a} p B) u v = (u — (u + span a)) ∷ (flats p u (u + span a) ++ right_flats B (u + span a) v)

  pub right_gate_flats : {t : Tree} → RightGate t → ℕ → ℕ → List Edge
  right_gate_flats (right_past {a} p G) u v = (u — (u + span a)) ∷ (flats p u (u + span a) ++ right_gate_flats G (u + span a) v)
  right_gate_flats (right_gate {a} S B) u v = right_flats B (u + span a) v ++ stem_flats S u (u + span a)

  pub left_gate_flats : {t : Tree} → LeftGate t → ℕ → ℕ → List Edge
  left_gate_flats (left_past {a} G p) u v = left_gate_flats G u (u + span a) ++ (((u + span a) — v) ∷ (flats p (u + span a) v ++ []))
  left_gate_flats (left_gate {a} A S) u v = back_flats S (u + span a) v ++ (left_flats A u (u + span a) ++ [])

  pub stem_flats : {t : Tree} → Stem t → ℕ → ℕ → List Edge
  stem_flats end_both p q = (suc p — q) ∷ []
  stem_flats (end_left c) p q = (suc p — q) ∷ (flats c (suc p) q ++ [])
  stem_flats (end_right {a} {b} c) p q = (p — (p + span (node a b))) ∷ (flats c p (p + span (node a b)) ++ [])
  stem_flats (go_left {a} S c) p q = ((p + span a) — q) ∷ (flats c (p + span a) q ++ stem_flats S p (p + span a))
  stem_flats (go_right {a} c S) p q = (p — (p + span a)) ∷ (flats c p (p + span a) ++ stem_flats S (p + span a) q)

  pub back_flats : {t : Tree} → Stem t → ℕ → ℕ → List Edge
  back_flats end_both p q = (p — suc p) ∷ []
  back_flats (end_left c) p q = (suc p — q) ∷ (flats c (suc p) q ++ [])
  back_flats (end_right {a} {b} c) p q = (p — (p + span (node a b))) ∷ (flats c p (p + span (node a b)) ++ [])
  back_flats (go_left {a} S c) p q = back_flats S p (p + span a) ++ (((p + span a) — q) ∷ (flats c (p + span a) q ++ []))
  back_flats (go_right {a} c S) p q = back_flats S (p + span a) q ++ ((p — (p + span a)) ∷ (flats c p (p + span a) ++ []))
