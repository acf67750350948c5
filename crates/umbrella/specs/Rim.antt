-- Document 01, "Umbrellas and levels": the rim of a piece, and the first gate of a plan.
-- (`rim_is` in proofs/Theorems.antt: these are the corners that document 01 names; `first_gate_lem`: the gate is a rim edge and a diagonal.)
use Rattle.std.specs.Prelude.{◌≡◌, List, [], ◌∷◌, ◌++◌, ℕ, suc, ◌+◌}
use Rattle.std.proofs.Math.Option as option
use Rattle.std.proofs.Math.Option.{Option, some}
use Rattle.lists.specs.Lists.{Mem}
use Rattle.polygon.specs.Polygon.{Edge, ◌—◌}
use Rattle.polygon.specs.Tree.{Tree, leaf, node, span}
use Rattle.umbrella.specs.Plan.{Plan, none, plain, stem_left, stem_right, LeftGate, left_gate, left_past, RightGate, right_gate, right_past}
use Rattle.umbrella.specs.Drawn.{code}
use Rattle.umbrella.specs.Triangles.{Inner, own}

-- The corners of the piece (u,rj), j ≤ i, between u and rj and joined to u: r0 to rj-1, by the steps of `LeftRim`.
unfoldable pub rim_below : ℕ → Tree → List ℕ
rim_below u leaf = []
rim_below u (node a b) = rim_below u a ++ ((u + span a) ∷ [])

-- The corners of the piece (rj,v), j ≥ i, between rj and v and joined to v: rj+1 to rk, by the steps of `RightRim`.
unfoldable pub rim_above : ℕ → Tree → List ℕ
rim_above u leaf = []
rim_above u (node a b) = (u + span a) ∷ rim_above (u + span a) b

-- "The rim r0 < r1 < ... < rk is every corner strictly between u and v joined to u or v; c = ri is joined to both."
unfoldable pub rim : ℕ → Tree → List ℕ
rim u leaf = []
rim u (node l r) = rim_below u l ++ ((u + span l) ∷ rim_above (u + span l) r)

-- "A stem enters across a rim edge that is a diagonal, its first gate": its two corners, of a plan of the piece on the corners from u on
unfoldable pub gate_below : {t : Tree} → LeftGate t → ℕ → Edge
gate_below (left_gate {a} {b} A S) u = (u + span a) — (u + (span a + span b))
gate_below (left_past G p) u = gate_below G u

unfoldable pub gate_above : {t : Tree} → RightGate t → ℕ → Edge
gate_above (right_gate {a} S B) u = u — (u + span a)
gate_above (right_past {a} p G) u = gate_above G (u + span a)

unfoldable pub first_gate : {t : Tree} → Plan t → ℕ → Option Edge
first_gate none u = option.none
first_gate (plain A B) u = option.none
first_gate (stem_left G B) u = some (gate_below G u)
first_gate (stem_right {l} A G) u = some (gate_above G (u + span l))

-- x and y stand beside each other in the list, as its elements s and s+1, counted from 0
pub data Neighbours (x y : ℕ) : ℕ → List ℕ → Type 0 where
  first : {l : List ℕ} → Neighbours x y 0 (x ∷ (y ∷ l))
  later : {s z : ℕ} {l : List ℕ} → Neighbours x y s l → Neighbours x y (suc s) (z ∷ l)

-- e is the edge between the neighbours s and s+1 in the list, s being the first number of a code
pub record Crossed (code : List ℕ) (e : Edge) (xs : List ℕ) : Type 0 where
  pub s : ℕ
  pub rest : List ℕ
  pub numbered : code ≡ s ∷ rest
  pub beside : Neighbours e.0 e.1 s xs

-- What is claimed of every plan with a stem, of the piece t on the corners from u on, and proved in proofs/Gates.antt.
pub record Gate (ds : List Edge) {t : Tree} (p : Plan t) (u : ℕ) : Type 0 where
  pub e : Edge
  pub is : first_gate p u ≡ some e
  -- it is the rim edge (rs, rs+1) that the order of the ties counts by
  pub crossed : Crossed (code p) e (rim u t)
  -- it is a diagonal
  pub diagonal : Mem e ds
  -- "at gate (p,q) it takes triangle (p,x,q)"
  pub taken : Inner (own p u (u + span t)) e
