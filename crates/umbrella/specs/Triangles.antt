-- The triangles of a piece, and those that each umbrella of a plan takes.
use Rattle.std.specs.Prelude.{◌≡◌, ◌⊎◌, ℕ, ◌+◌, ◌<◌, length}
use Rattle.std.proofs.Common.{ap}
use mathlib.Core.List.{List, [], ◌∷◌, ◌++◌, flatten}
use Rattle.std.proofs.Math.Decide.{ℕ_discrete}
use Rattle.lists.specs.Lists.{Mem, occurs}
use Rattle.polygon.specs.Polygon.{Edge, Linked}
use Rattle.polygon.specs.Tree.{Tree, leaf, node, span}
use Rattle.umbrella.specs.Plan.{Plan, none, plain, stem_left, stem_right, LeftRim, left_end, left_on, RightRim, right_end, right_on, LeftGate, left_gate, left_past, RightGate, right_gate, right_past, Stem, end_both, end_left, end_right, go_left, go_right, umbrellas}

-- a triangle (p,x,q) by its corners, p < x < q
abbrev pub Triangle : Type 0
Triangle = ℕ × ℕ × ℕ

unfoldable pub same_triangle? : (x y : Triangle) → Dec (x ≡ y)
same_triangle? x y = go (ℕ_discrete x.0 y.0) (ℕ_discrete x.1 y.1) (ℕ_discrete x.2 y.2)
  where
    go : Dec (x.0 ≡ y.0) → Dec (x.1 ≡ y.1) → Dec (x.2 ≡ y.2) → Dec (x ≡ y)
    go (yes h) (yes j) (yes k) = yes (λ i. (h i, j i, k i))
    go (yes h) (yes j) (no k) = no (λ e. k (ap (λ (z : Triangle). z.2) e))
    go (yes h) (no j) k = no (λ e. j (ap (λ (z : Triangle). z.1) e))
    go (no h) j k = no (λ e. h (ap (λ (z : Triangle). z.0) e))

-- "The piece (u,v) is all triangles on corners u to v": of the piece t on the corners u .. u + span t
unfoldable pub triangles : ℕ → Tree → List Triangle
triangles u leaf = []
triangles u (node l r) = triangles u l ++ ((u, u + span l, u + (span l + span r)) ∷ triangles (u + span l) r)

-- three corners that sides or diagonals of the part join, each to each (`triangles_of_piece` in proofs/Theorems.antt: the triangles of a piece are these)
abbrev pub AllJoined : ℕ → List Edge → Triangle → Type 0
AllJoined n ds x = (x.0 < x.1) × (x.1 < x.2) × Linked n ds x.0 x.1 × Linked n ds x.1 x.2 × Linked n ds x.0 x.2

-- a triangle of the list stands on the edge, its third corner between the ends; or lies beyond the edge, its third corner below or above them
abbrev pub Inner : List Triangle → Edge → Type 0
Inner xs e = (x : ℕ) × Mem (e.0, x, e.1) xs

abbrev pub Outer : List Triangle → Edge → Type 0
Outer xs e = (x : ℕ) × (Mem (e.0, e.1, x) xs ⊎ Mem (x, e.0, e.1) xs)

-- a triangle at u or at v
abbrev pub AtRoot : ℕ → ℕ → Triangle → Type 0
AtRoot u v x = (x.0 ≡ u) ⊎ (x.2 ≡ v)

-- The triangles that the umbrella at the root edge takes: those at u, those at v, those of its stem.
unfoldable pub own_left : {t : Tree} → LeftRim t → ℕ → ℕ → List Triangle
own_left left_end u v = []
own_left (left_on {a} A p) u v = own_left A u (u + span a) ++ ((u, u + span a, v) ∷ [])

unfoldable pub own_right : {t : Tree} → RightRim t → ℕ → ℕ → List Triangle
own_right right_end u v = []
own_right (right_on {a} p B) u v = (u, u + span a, v) ∷ own_right B (u + span a) v

unfoldable pub own_stem : {t : Tree} → Stem t → ℕ → ℕ → List Triangle
own_stem end_both p q = (p, p + 1, q) ∷ []
own_stem (end_left c) p q = (p, p + 1, q) ∷ []
own_stem (end_right {a} {b} c) p q = (p, p + span (node a b), q) ∷ []
own_stem (go_left {a} S c) p q = (p, p + span a, q) ∷ own_stem S p (p + span a)
own_stem (go_right {a} c S) p q = (p, p + span a, q) ∷ own_stem S (p + span a) q

unfoldable pub own_left_gate : {t : Tree} → LeftGate t → ℕ → ℕ → List Triangle
own_left_gate (left_gate {a} A S) u v = own_left A u (u + span a) ++ ((u, u + span a, v) ∷ own_stem S (u + span a) v)
own_left_gate (left_past {a} G p) u v = own_left_gate G u (u + span a) ++ ((u, u + span a, v) ∷ [])

unfoldable pub own_right_gate : {t : Tree} → RightGate t → ℕ → ℕ → List Triangle
own_right_gate (right_gate {a} S B) u v = own_stem S u (u + span a) ++ ((u, u + span a, v) ∷ own_right B (u + span a) v)
own_right_gate (right_past {a} p G) u v = (u, u + span a, v) ∷ own_right_gate G (u + span a) v

unfoldable pub own : {t : Tree} → Plan t → ℕ → ℕ → List Triangle
own none u v = []
own (plain {l} A B) u v = own_left A u (u + span l) ++ ((u, u + span l, v) ∷ own_right B (u + span l) v)
own (stem_left {l} G B) u v = own_left_gate G u (u + span l) ++ ((u, u + span l, v) ∷ own_right B (u + span l) v)
own (stem_right {l} A G) u v = own_left A u (u + span l) ++ ((u, u + span l, v) ∷ own_right_gate G (u + span l) v)

-- A list of triangles for each umbrella in the plan of the piece (u,v): those that it takes.
unfoldable mutual
  pub shares : {t : Tree} → Plan t → ℕ → ℕ → List (List Triangle)
  shares none u v = []
  shares (plain {l} A B) u v = own (plain A B) u v ∷ (shares_left A u (u + span l) ++ shares_right B (u + span l) v)
  shares (stem_left {l} G B) u v = own (stem_left G B) u v ∷ (shares_left_gate G u (u + span l) ++ shares_right B (u + span l) v)
  shares (stem_right {l} A G) u v = own (stem_right A G) u v ∷ (shares_left A u (u + span l) ++ shares_right_gate G (u + span l) v)

  pub shares_left : {t : Tree} → LeftRim t → ℕ → ℕ → List (List Triangle)
  shares_left left_end u v = []
  shares_left (left_on {a} A p) u v = shares_left A u (u + span a) ++ shares p (u + span a) v

  pub shares_right : {t : Tree} → RightRim t → ℕ → ℕ → List (List Triangle)
  shares_right right_end u v = []
  shares_right (right_on {a} p B) u v = shares p u (u + span a) ++ shares_right B (u + span a) v

  pub shares_left_gate : {t : Tree} → LeftGate t → ℕ → ℕ → List (List Triangle)
  shares_left_gate (left_gate {a} A S) u v = shares_left A u (u + span a) ++ shares_stem S (u + span a) v
  shares_left_gate (left_past {a} G p) u v = shares_left_gate G u (u + span a) ++ shares p (u + span a) v

  pub shares_right_gate : {t : Tree} → RightGate t → ℕ → ℕ → List (List Triangle)
  shares_right_gate (right_gate {a} S B) u v = shares_stem S u (u + span a) ++ shares_right B (u + span a) v
  shares_right_gate (right_past {a} p G) u v = shares p u (u + span a) ++ shares_right_gate G (u + span a) v

  pub shares_stem : {t : Tree} → Stem t → ℕ → ℕ → List (List Triangle)
  shares_stem end_both p q = []
  shares_stem (end_left c) p q = shares c (p + 1) q
  shares_stem (end_right {a} {b} c) p q = shares c p (p + span (node a b))
  shares_stem (go_left {a} S c) p q = shares_stem S p (p + span a) ++ shares c (p + span a) q
  shares_stem (go_right {a} c S) p q = shares c p (p + span a) ++ shares_stem S (p + span a) q

-- What is claimed of every plan p of the piece t on the corners u .. v, and proved in proofs/Triangles.antt.
pub record Taken {t : Tree} (p : Plan t) (u v : ℕ) : Type 0 where
  -- each triangle of the piece is taken once, and nothing else is taken
  pub each : (x : Triangle) → Mem x (triangles u t) → occurs same_triangle? x (flatten (shares p u v)) ≡ 1
  pub only : (x : Triangle) → Mem x (flatten (shares p u v)) → Mem x (triangles u t)
  -- there is one share for each umbrella
  pub umbrella_each : length (shares p u v) ≡ umbrellas p
  -- "An umbrella takes all the piece's triangles at u or v"
  pub at_root : (x : Triangle) → Mem x (triangles u t) → AtRoot u v x → Mem x (own p u v)
