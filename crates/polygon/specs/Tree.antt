-- A triangulated polygon as a binary tree, and the tree of a polygon.
use Rattle.std.specs.Prelude.{◌≡◌, List, [], ◌∷◌, ◌++◌, ℕ, zero, suc, ◌+◌, ◌-◌, ◌<◌, max}
use Rattle.std.proofs.Math.Logic.Dec.{and as dec_and}
use Rattle.std.proofs.Math.Decide.{dec_lt, ℕ_discrete}
use Rattle.lists.specs.Lists.{choose}
use Rattle.polygon.specs.Polygon.{Edge, ◌—◌}

-- the piece (u,v): a side, or the triangle (u,c,v) with the pieces (u,c) and (c,v) beyond its other two edges
pub data Tree : Type 0 where
  leaf : Tree
  node : Tree → Tree → Tree

-- v - u
unfoldable pub span : Tree → ℕ
span leaf = 1
span (node l r) = span l + span r

-- the edges of the piece t on the corners u .. u + span t that are no sides, its root edge among them: those at u, ascending, and those at later corners
unfoldable pub chords_at : ℕ → Tree → List Edge
chords_at u leaf = []
chords_at u (node l r) = chords_at u l ++ ((u — (u + (span l + span r))) ∷ [])

unfoldable pub chords_past : ℕ → Tree → List Edge
chords_past u leaf = []
chords_past u (node l r) = chords_past u l ++ (chords_at (u + span l) r ++ chords_past (u + span l) r)

unfoldable pub chords : ℕ → Tree → List Edge
chords u t = chords_at u t ++ chords_past u t

-- the same without the root edge: the diagonals of the piece
unfoldable pub inner : ℕ → Tree → List Edge
inner u leaf = []
inner u (node l r) = chords_at u l ++ chords_past u (node l r)

-- the farthest corner short of v that u is joined to: u + 1, or the largest c < v with (u,c) among the edges
unfoldable pub near? : (u v : ℕ) (e : Edge) → Dec ((e.0 ≡ u) × (e.1 < v))
near? u v e = dec_and (ℕ_discrete e.0 u) (dec_lt e.1 v)

unfoldable pub farther : {P : Type 0} → Dec P → ℕ → ℕ → ℕ
farther (yes p) a b = max a b
farther (no p) a b = b

unfoldable pub far : ℕ → ℕ → List Edge → ℕ
far u v [] = suc u
far u v (e ∷ es) = farther (near? u v e) e.1 (far u v es)

-- the tree of the piece (u,v) of a polygon with these diagonals; the first number bounds the depth, and v - u is enough
unfoldable pub grow : ℕ → List Edge → ℕ → ℕ → Tree
grow zero ds u v = leaf
grow (suc k) ds u v =
    let c = far u v ds in
    let t = node (grow k ds u c) (grow k ds c v) in
    choose (dec_lt (suc u) v) t leaf

-- the piece (u,v)
unfoldable pub piece : List Edge → ℕ → ℕ → Tree
piece ds u v = grow (v - u) ds u v

unfoldable pub tree_of : ℕ → List Edge → Tree
tree_of n ds = grow n ds 0 (n - 1)

-- "For u < v joined by an edge, the piece (u,v) is all triangles on corners u to v": t is the piece on the corners u .. u + span t, found in the piece s on the corners from x on.
-- It is s itself, or lies beyond one of the other two edges of the triangle that stands at the root edge of s.
pub data Piece (u : ℕ) (t : Tree) : ℕ → Tree → Type 0 where
  itself : Piece u t u t
  beyond_left : {x : ℕ} {l r : Tree} → Piece u t x l → Piece u t x (node l r)
  beyond_right : {x : ℕ} {l r : Tree} → Piece u t (x + span l) r → Piece u t x (node l r)

-- a piece of the part: "the whole part is the piece (0, n-1)"
abbrev pub PieceOf : ℕ → List Edge → ℕ → Tree → Type 0
PieceOf n ds u t = Piece u t 0 (tree_of n ds)
