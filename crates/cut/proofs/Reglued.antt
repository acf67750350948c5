-- A valid part with a diagonal (a,b) is two parts joined on side a of the first: the part of its piece (a,b), and the part of its tree with a leaf in the place of that piece. The diagonal is the seam.
use mathlib.Core.Path.{◌≡◌, refl, ap, ap₂, sym, ◌∙◌}
use mathlib.Core.Logic.{inr}
use Prim.Native.Nat.{ℕ, suc, ◌+◌, ◌≤◌, ◌<◌}
use native.Mathlib.Omega.{arith}
use Rattle.lists.specs.Lists.{Mem}
use Rattle.lists.proofs.Lists.{all_mem}
use Rattle.polygon.specs.Angles.{none}
use Rattle.polygon.specs.Polygon.{Edge, Polygon, Diagonal, Valid}
use Rattle.polygon.specs.Tree.{Tree, span, inner, tree_of, PieceOf}
use Rattle.polygon.proofs.Order.{edge}
use Rattle.polygon.proofs.PieceTheorem.{piece_at}
use Rattle.polygon.proofs.Theorems.{tree_is_polygon}
use Rattle.polygon.proofs.TreeTheorem.{tree_of_lem, tree_unique}
use Rattle.seam.specs.Join.{seam, glue}
use Rattle.seam.specs.Graft.{graft}
use Rattle.seam.proofs.Graft.{graft_span}
use Rattle.seam.proofs.Grafted.{glued_tree, glued_triangulated}
use Rattle.cut.specs.Pruned.{pruned}
use Rattle.cut.proofs.Pruned.{pruned_leaf, pruned_graft}

-- the part without angles of a tree
abbrev pub of_tree : Tree → Polygon
of_tree t = record { n = suc (span t); ds = inner 0 t; angles = none }

pub tree_back : (t : Tree) → 2 ≤ span t → tree_of (suc (span t)) (inner 0 t) ≡ t
tree_back t h = tree_unique (suc (span t)) (inner 0 t) t (omega arith) (record { size = refl; same = refl })

-- the part p is what w and t give, joined at c
pub record Reglued (c : Edge) (p : Polygon) : Type 0 where
  pub t : Tree
  pub piece : PieceOf p.n p.ds c.0 t
  pub cut_is : c ≡ seam (suc (span t)) c.0
  pub first : Valid (of_tree (pruned piece))
  pub second : Valid (of_tree t)
  pub below : suc c.0 < suc (span (pruned piece))
  pub corners : p.n ≡ span (pruned piece) + span t
  pub diagonals : p.ds ≡ (glue c.0 (of_tree (pruned piece)) (of_tree t)).ds

pub reglued : (c : Edge) (p : Polygon) → Valid p → Mem c p.ds → Reglued c p
unfolding glue
reglued c p P m =
    let a : ℕ = c.0 in
    let D : Diagonal p.n c = all_mem P.triangulated.diagonals m in
    let (t, q, e) = piece_at p.n p.ds P.triangulated a c.1 (inr m) in
    let w : Tree = pruned q in
    let S = tree_of_lem p.n p.ds P.triangulated in
    let whole : graft a w t ≡ tree_of p.n p.ds = pruned_graft q a (omega arith) in
    let spans : span (tree_of p.n p.ds) + 1 ≡ span w + span t = rw whole at (graft_span a w t) in
    let big : 2 ≤ span t = omega (arith, D.forth) in
    let wide : 2 ≤ span w = omega (arith, D.back, S.size) in
    let F : Valid (of_tree w) = tree_is_polygon w none wide (omega (arith, P.most, S.size)) tt in
    let G : Valid (of_tree t) = tree_is_polygon t none big (omega (arith, P.most, S.size)) tt in
    let under : suc a < suc (span w) = omega (arith, pruned_leaf q a (omega arith)) in
    let same : tree_of (glue a (of_tree w) (of_tree t)).n (glue a (of_tree w) (of_tree t)).ds ≡ tree_of p.n p.ds =
    glued_tree a (of_tree w) (of_tree t) F G under ∙ (ap₂ (graft a) (tree_back w wide) (tree_back t big) ∙ whole) in
    let T = tree_of_lem _ _ (glued_triangulated a (of_tree w) (of_tree t) F G under) in
    record {
      t = t;
      piece = q;
      cut_is = edge refl (omega arith);
      first = F;
      second = G;
      below = under;
      corners = omega (arith, S.size, spans);
      diagonals = sym S.same ∙ (ap (inner 0) (sym same) ∙ T.same);
    }
