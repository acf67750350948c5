-- The tree of the rest (`rest-tree` in proofs/Theorems.antt).
use Rattle.std.specs.Prelude.{ℕ}
use Rattle.polygon.specs.Tree.{Tree, leaf, node, Piece, itself, beyond_left, beyond_right}

-- the tree s with a leaf in the place of its piece t
unfoldable pub pruned : {a : ℕ} {t : Tree} {x : ℕ} {s : Tree} → Piece a t x s → Tree
pruned itself = leaf
pruned (beyond_left {r = r} q) = node (pruned q) r
pruned (beyond_right {l = l} q) = node l (pruned q)
