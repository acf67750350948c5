-- What lies behind an edge of a part: nothing behind a side, and behind any other edge one triangle and what lies behind its other two edges (`behind`, `piece_leaf`, `piece_node`).
-- Rests on the pieces of a part's tree, and on there being one corner only within a piece that is joined to both ends of its root edge.
use mathlib.Core.Path.{◌≡◌, refl, sym}
use mathlib.Core.Logic.{inl}
use mathlib.Core.List.{List}
use Prim.Native.Nat.{ℕ, suc, ◌+◌, ◌<◌}
use native.Mathlib.Omega.{arith}
use Rattle.lists.proofs.Lists.{here, mem_right}
use Rattle.polygon.specs.Polygon.{Edge, Triangulated, Linked}
use Rattle.polygon.specs.Tree.{Tree, leaf, node, span, piece, PieceOf}
use Rattle.polygon.proofs.TreeOf.{grow_leaf}
use Rattle.polygon.proofs.TreeTheorem.{tree_of_lem}
use Rattle.polygon.proofs.PieceTheorem.{piece_lies, left_piece, right_piece, piece_at, piece_is}
use Rattle.umbrella.specs.Triangles.{triangles, AllJoined}
use Rattle.umbrella.proofs.Corners.{triangles_joined}
use Rattle.umbrella.proofs.Rim.{rim_joined, apex_joined}

-- the edge (a,b) is a side, or the triangle (a,c,b) stands on it
pub data Behind (n : ℕ) (ds : List Edge) : ℕ → ℕ → Type 0 where
  nothing : {a b : ℕ} → b ≡ suc a → b < n → Behind n ds a b
  triangle : {a c b : ℕ} → AllJoined n ds (a, c, b) → Behind n ds a c → Behind n ds c b → Behind n ds a b

-- the piece on a side is empty
pub piece_leaf : (ds : List Edge) {a b : ℕ} → b ≡ suc a → piece ds a b ≡ leaf
unfolding piece
piece_leaf ds {a} {b} h = grow_leaf _ ds a b (omega arith)

-- of a triangulated polygon
module _ (n : ℕ) (ds : List Edge) (P : Triangulated n ds) where
  -- the piece on any other edge is the triangle that stands there, with the pieces on its other two edges
  pub piece_node : {a c b : ℕ} → AllJoined n ds (a, c, b) → piece ds a b ≡ node (piece ds a c) (piece ds c b)
  unfolding span
  piece_node {a} {c} {b} (i, j, L, R, B) = let (t, p, h) = piece_at n ds P a b B in go t p h
    where
      go : (t : Tree) → PieceOf n ds a t → a + span t ≡ b → piece ds a b ≡ node (piece ds a c) (piece ds c b)
      go leaf p h = absurd (omega arith)
      go (node l r) p h =
          let e : c ≡ a + span l = (apex_joined n ds P p c).0 ((rim_joined n ds P p c).1 (i, omega arith, inl L), L, rw (sym h) at R) in
          cc (piece_is n ds P p b h, piece_is n ds P (left_piece p) c (sym e), rw (sym e) at (piece_is n ds P (right_piece p) b (omega arith)))

  -- every edge is the one or the other, by recursion on its piece
  behind_piece : (t : Tree) {a b : ℕ} → PieceOf n ds a t → a + span t ≡ b → Behind n ds a b
  unfolding span triangles
  behind_piece leaf {a} {b} p h = nothing {a = a} {b = b} (omega arith) (omega (arith, piece_lies p, (tree_of_lem n ds P).size))
  behind_piece (node l r) {a} p h =
      let j = ((triangles_joined n ds P p (a, a + span l, a + (span l + span r))).0 (mem_right (triangles a l) here)).2 in
      triangle (rw h at j) (behind_piece l (left_piece p) refl) (behind_piece r (right_piece p) (omega arith))

  pub behind : (a b : ℕ) → Linked n ds a b → Behind n ds a b
  behind a b k = let (t, p, h) = piece_at n ds P a b k in behind_piece t p h
