-- The tree of a joined part (`glued_tree` in proofs/Theorems.antt). Side i of a part, i below n-1, is leaf i of its tree, counted from the left from 0.
use Rattle.std.specs.Prelude.{ℕ, ◌-◌}
use Rattle.std.proofs.Math.Decide.{dec_lt}
use Rattle.lists.specs.Lists.{choose}
use Rattle.polygon.specs.Tree.{Tree, leaf, node, span}

-- the tree s with the tree t in the place of its leaf i
unfoldable pub graft : ℕ → Tree → Tree → Tree
graft i leaf t = t
graft i (node l r) t = choose (dec_lt i (span l)) (node (graft i l t) r) (node l (graft (i - span l) r t))
