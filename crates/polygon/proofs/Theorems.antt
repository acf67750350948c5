-- The theorems of this crate in one place. To be read with specs/Polygon.antt (what a polygon is) and specs/Tree.antt (`Tree`, `span`, `inner`, `tree_of`, `far`, `PieceOf`).
use mathlib.Core.Path.{◌≡◌, ap, sym, ◌∙◌}
use mathlib.Core.Logic.{◌↔◌}
use mathlib.Core.List.{List}
use Prim.Native.Nat.{ℕ, suc, ◌+◌, ◌-◌, ◌≤◌}
use native.Mathlib.Omega.{arith}
use lib.ListN.{length}
use Rattle.lists.specs.Lists.{All, Sub}
use Rattle.polygon.specs.Angles.{Angles, Allowed}
use Rattle.polygon.specs.Polygon.{Edge, Ascending, NoneCross, Diagonal, Polygon, Valid, Linked}
use Rattle.polygon.specs.Tree.{Tree, leaf, span, inner, far, tree_of, itself, PieceOf}
use Rattle.polygon.proofs.TreeTheorem.{tree_of_lem, tree_unique, tree_triangulates}
use Rattle.polygon.proofs.PieceTheorem.{side_empty, piece_at, root_joined, piece_is}
use Rattle.polygon.proofs.Crossing as crossing
use Rattle.polygon.proofs.Reading.{same_set}

-- A valid polygon is exactly one tree: the one that tree_of computes has its n - 1 sides and its diagonals, and no other tree has.
pub polygon_is_tree : (p : Polygon) → Valid p
    → (suc (span (tree_of p.n p.ds)) ≡ p.n)
    × (inner 0 (tree_of p.n p.ds) ≡ p.ds)
    × ((t : Tree) → suc (span t) ≡ p.n → inner 0 t ≡ p.ds → t ≡ tree_of p.n p.ds)
polygon_is_tree p v =
    let T = tree_of_lem p.n p.ds v.triangulated in
    (T.size, T.same, λ t h e. sym (tree_unique p.n p.ds t v.least (record { size = h; same = e })))

-- A tree of span 2 to 1,023 is a valid polygon: one corner more than its span, with its inner edges as diagonals and any angles that are allowed.
pub tree_is_polygon : (t : Tree) (xs : Angles) → 2 ≤ span t → span t ≤ 1023 → Allowed (suc (span t)) xs → Valid (record { n = suc (span t); ds = inner 0 t; angles = xs })
tree_is_polygon t xs h k a = record { least = omega arith; most = omega arith; triangulated = tree_triangulates t h; allowed = a }

-- "The whole part is the piece (0, n-1)."
pub whole_part : (p : Polygon) → Valid p → PieceOf p.n p.ds 0 (tree_of p.n p.ds) × (0 + span (tree_of p.n p.ds) ≡ p.n - 1)
whole_part p v = (itself, omega (arith, (tree_of_lem p.n p.ds v.triangulated).size))

-- "For u < v joined by an edge, the piece (u,v)": there is exactly one, and a side or a diagonal joins the ends of every piece.
pub edge_has_piece : (p : Polygon) → Valid p → (u v : ℕ) → Linked p.n p.ds u v
    → (t : Tree) × PieceOf p.n p.ds u t × (u + span t ≡ v) × ((s : Tree) → PieceOf p.n p.ds u s → u + span s ≡ v → s ≡ t)
edge_has_piece p k u v L =
    let T = k.triangulated in
    let (t, a, h) = piece_at p.n p.ds T u v L in
    (t, a, h, λ s b i. piece_is p.n p.ds T b v i ∙ sym (piece_is p.n p.ds T a v h))

pub piece_has_edge : (p : Polygon) → Valid p → {u : ℕ} {t : Tree} → PieceOf p.n p.ds u t → Linked p.n p.ds u (u + span t)
piece_has_edge p v a = root_joined p.n p.ds v.triangulated a

-- "Beyond a side it is empty", and beyond a side only.
pub beyond_side : (u : ℕ) (t : Tree) → (u + span t ≡ suc u) ↔ (t ≡ leaf)
beyond_side u t = side_empty u t

-- n - 3 different diagonals of n corners: no two cross exactly when for each (u,v) of them, and for the root edge (0, n-1),
-- the farthest corner c short of v that u is joined to is itself joined to v and to no corner above v.
pub crossing_test : (n : ℕ) (ds : List Edge) → Ascending ds → All (Diagonal n) ds → length ds + 3 ≡ n
    → NoneCross ds ↔ ((far (far 0 (n - 1) ds) n ds ≡ n - 1) × All (λ e. far (far e.0 e.1 ds) n ds ≡ e.1) ds)
crossing_test = crossing.crossing_test

-- Two valid polygons with the same set of diagonals have the same corners and the same list.
pub same_diagonals : (p q : Polygon) → Valid p → Valid q → Sub p.ds q.ds → Sub q.ds p.ds → (p.n ≡ q.n) × (p.ds ≡ q.ds)
same_diagonals p q A B f g =
    let e = same_set p.n q.n p.ds q.ds A.triangulated B.triangulated f g in
    (omega (arith, ap length e, A.triangulated.full, B.triangulated.full), e)
