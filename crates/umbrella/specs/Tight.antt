-- Request (ii): "a part of D levels never has fewer than 2 to the power D+1, less 1, corners, and for each D from 1 to 9 some part has exactly that many." That part, by recursion, for every D from 1 on.
-- (`part_corners`, `tight_has` and `tight_part_lem` in proofs/Theorems.antt.)
use Rattle.std.specs.Prelude.{ℕ, zero, suc}
use Rattle.polygon.specs.Angles.{none}
use Rattle.polygon.specs.Polygon.{Polygon}
use Rattle.polygon.specs.Tree.{Tree, leaf, node, span, inner}

-- One level: the triangle. A level more: the triangle (u,c,v), the triangle (u,u+1,c) beyond its edge (u,c) and (c,v-1,v) beyond (c,v); the piece of a level less hangs on (u+1,c), and once more on (c,v-1).
-- One of the two is left hanging, for an umbrella has one stem at most.
unfoldable pub tight : ℕ → Tree
tight zero = leaf
tight (suc zero) = node leaf leaf
tight (suc (suc k)) = node (node leaf (tight (suc k))) (node (tight (suc k)) leaf)

-- the part, without angles
abbrev pub tight_part : ℕ → Polygon
tight_part D = record { n = suc (span (tight D)); ds = inner 0 (tight D); angles = none }
