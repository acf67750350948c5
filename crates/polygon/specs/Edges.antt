-- All edges of a piece, its sides among them, ascending.
use Rattle.std.specs.Prelude.{List, [], ◌∷◌, ◌++◌, ℕ, suc, ◌+◌}
use Rattle.polygon.specs.Polygon.{Edge, ◌—◌}
use Rattle.polygon.specs.Tree.{Tree, leaf, node, span, chords_at}

-- of the piece t on the corners u .. u + span t: those at u, the side first, and those at later corners
unfoldable pub edges_at : ℕ → Tree → List Edge
edges_at u t = (u — suc u) ∷ chords_at u t

unfoldable pub edges_past : ℕ → Tree → List Edge
edges_past u leaf = []
edges_past u (node l r) = edges_past u l ++ (edges_at (u + span l) r ++ edges_past (u + span l) r)

unfoldable pub edges : ℕ → Tree → List Edge
edges u t = edges_at u t ++ edges_past u t
