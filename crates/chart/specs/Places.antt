-- Document 01, "The chart's places": the upright edge of each column of a piece, from the left, and the row of each corner of it.
-- The rim corners, the gates and the letters E, L, R are those of the plan's definition in crate umbrella.
use Rattle.std.specs.Prelude.{List, [], ◌∷◌, ◌++◌, map, reverse, ℕ, suc, ◌+◌, ◌-◌, ◌*◌}
use Rattle.polygon.specs.Polygon.{Edge, ◌—◌}
use Rattle.polygon.specs.Tree.{Tree, node, span}
use Rattle.umbrella.specs.Plan.{Plan, none, plain, stem_left, stem_right, LeftRim, left_end, left_on, RightRim, right_end, right_on, LeftGate, left_gate, left_past, RightGate, right_gate, right_past, Stem, end_both, end_left, end_right, go_left, go_right, levels}

-- "Columns are filled from the left, one upright each; a hung piece takes as many columns as its own drawing."
-- "It is reversed left to right exactly when its higher corner stands left": under `reverse`.
unfoldable mutual
  -- of the piece (u,v)
  pub cols : {t : Tree} → Plan t → ℕ → ℕ → List Edge
  cols none u v = []
  -- "No stem, or first gate (rs, rs+1) with s ≥ i. For t = 0 to s (to k without stem), rt lies on row 2D: a column up to u if t ≤ i, then one up to v if t ≥ i."
  cols (plain {l} A B) u v = left_cols A u (u + span l) ++ right_cols B (u + span l) v
  cols (stem_right {l} A G) u v = left_cols A u (u + span l) ++ right_gate_cols G (u + span l) v
  -- "If s < i, build from the right, with u and v, lower and higher, L and R exchanged, the rim read backwards."
  cols (stem_left {l} G B) u v = left_gate_cols G u (u + span l) ++ right_cols B (u + span l) v

  -- v a rim corner: r0 up to v, a column up to u each. "Between rt and its successor on that row comes the hung piece, if any."
  pub left_cols : {t : Tree} → LeftRim t → ℕ → ℕ → List Edge
  left_cols left_end u v = (u — v) ∷ []
  left_cols (left_on {a} A p) u v = left_cols A u (u + span a) ++ (cols p (u + span a) v ++ ((u — v) ∷ []))

  -- u a rim corner: u up to rk, a column up to v each, hung pieces between
  pub right_cols : {t : Tree} → RightRim t → ℕ → ℕ → List Edge
  right_cols right_end u v = (u — v) ∷ []
  right_cols (right_on {a} p B) u v = (u — v) ∷ (cols p u (u + span a) ++ right_cols B (u + span a) v)

  -- u a rim corner: u up to rs, a column up to v each. "Then, with a stem, rk down to rs+1 lie on row 1, a column each up to v, hung pieces between. Then the gate's column, row 1 to row 2D."
  pub right_gate_cols : {t : Tree} → RightGate t → ℕ → ℕ → List Edge
  right_gate_cols (right_past {a} p G) u v = (u — v) ∷ (cols p u (u + span a) ++ right_gate_cols G (u + span a) v)
  right_gate_cols (right_gate {a} S B) u v = (u — v) ∷ (reverse (right_cols B (u + span a) v) ++ stem_cols S u (u + span a))

  -- the same built from the right, v a rim corner: v down to rs+1, a column up to u each; then r0 up to rs on row 1; then the gate's column
  pub left_gate_cols : {t : Tree} → LeftGate t → ℕ → ℕ → List Edge
  left_gate_cols (left_past {a} G p) u v = left_gate_cols G u (u + span a) ++ (cols p (u + span a) v ++ ((u — v) ∷ []))
  left_gate_cols (left_gate {a} A S) u v = back_cols S (u + span a) v ++ (reverse (left_cols A u (u + span a)) ++ ((u — v) ∷ []))

  -- the column of gate (p,q), then "per stem triangle: L puts x on row 1, R on row 2D, after the hung piece of the new level edge, followed by the new gate's column".
  -- "E acts as L if (p,x) is a side, else as R."
  pub stem_cols : {t : Tree} → Stem t → ℕ → ℕ → List Edge
  stem_cols end_both p q = (p — q) ∷ (p — suc p) ∷ []
  stem_cols (end_left c) p q = (p — q) ∷ (reverse (cols c (suc p) q) ++ ((p — suc p) ∷ []))
  stem_cols (end_right {a} {b} c) p q = (p — q) ∷ (cols c p (p + span (node a b)) ++ (((p + span (node a b)) — q) ∷ []))
  stem_cols (go_left {a} S c) p q = (p — q) ∷ (reverse (cols c (p + span a) q) ++ stem_cols S p (p + span a))
  stem_cols (go_right {a} c S) p q = (p — q) ∷ (cols c p (p + span a) ++ stem_cols S (p + span a) q)

  -- the same built from the right. "E then acts as R if (x,q) is a side, else as L."
  pub back_cols : {t : Tree} → Stem t → ℕ → ℕ → List Edge
  back_cols end_both p q = (suc p — q) ∷ (p — q) ∷ []
  back_cols (end_left c) p q = (p — suc p) ∷ (cols c (suc p) q ++ ((p — q) ∷ []))
  back_cols (end_right {a} {b} c) p q = ((p + span (node a b)) — q) ∷ (reverse (cols c p (p + span (node a b))) ++ ((p — q) ∷ []))
  back_cols (go_left {a} S c) p q = back_cols S p (p + span a) ++ (cols c (p + span a) q ++ ((p — q) ∷ []))
  back_cols (go_right {a} c S) p q = back_cols S (p + span a) q ++ (reverse (cols c p (p + span a)) ++ ((p — q) ∷ []))

-- "A hung piece on row 2D goes upwards, on row 1 downwards; its row 0 is that row": its row r is row `up D r`, or row `suc r`.
abbrev pub row_up : ℕ → ℕ → ℕ
row_up D r = 2 * D - r

-- "A piece of D levels has rows 0 to 2D; u and v lie on row 0, u left." The rows of the corners strictly between u and v, in the order of the corners.
unfoldable mutual
  -- c lies on row 2D
  pub rows : {t : Tree} → Plan t → List ℕ
  rows none = []
  rows (plain A B) = let D = levels (plain A B) in left_rows (row_up D) A ++ (row_up D 0 ∷ right_rows (row_up D) B)
  rows (stem_right A G) = let D = levels (stem_right A G) in left_rows (row_up D) A ++ (row_up D 0 ∷ right_gate_rows (row_up D) G)
  rows (stem_left G B) = let D = levels (stem_left G B) in left_gate_rows (row_up D) G ++ (row_up D 0 ∷ right_rows (row_up D) B)

  -- a rim on row f 0, and its hung pieces, whose rows go by f
  pub left_rows : {t : Tree} → (ℕ → ℕ) → LeftRim t → List ℕ
  left_rows f left_end = []
  left_rows f (left_on A p) = left_rows f A ++ (f 0 ∷ map f (rows p))

  pub right_rows : {t : Tree} → (ℕ → ℕ) → RightRim t → List ℕ
  right_rows f right_end = []
  right_rows f (right_on p B) = map f (rows p) ++ (f 0 ∷ right_rows f B)

  -- from c as far as the gate the rim lies on row f 0, which is 2D, and beyond it on row 1
  pub right_gate_rows : {t : Tree} → (ℕ → ℕ) → RightGate t → List ℕ
  right_gate_rows f (right_past p G) = map f (rows p) ++ (f 0 ∷ right_gate_rows f G)
  right_gate_rows f (right_gate S B) = stem_rows suc f S ++ (1 ∷ right_rows suc B)

  pub left_gate_rows : {t : Tree} → (ℕ → ℕ) → LeftGate t → List ℕ
  left_gate_rows f (left_past G p) = left_gate_rows f G ++ (f 0 ∷ map f (rows p))
  left_gate_rows f (left_gate A S) = left_rows suc A ++ (1 ∷ stem_rows f suc S)

  -- L puts x on row g 0, R on row h 0: row 1 and row 2D, exchanged if built from the right. If both (p,x) and (x,q) are sides, E puts x on row 1 either way.
  pub stem_rows : {t : Tree} → (g h : ℕ → ℕ) → Stem t → List ℕ
  stem_rows g h end_both = 1 ∷ []
  stem_rows g h (end_left c) = g 0 ∷ map g (rows c)
  stem_rows g h (end_right c) = map h (rows c) ++ (h 0 ∷ [])
  stem_rows g h (go_left S c) = stem_rows g h S ++ (g 0 ∷ map g (rows c))
  stem_rows g h (go_right c S) = map h (rows c) ++ (h 0 ∷ stem_rows g h S)
