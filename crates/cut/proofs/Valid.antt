-- The two parts that a cut gives: which diagonals they have, that they are valid, their trees; and that the rest and the inner part, joined, have the corners and the diagonals of the whole.
use mathlib.Core.Path.{◌≡◌, refl, ap, ap₂, sym, ◌∙◌}
use mathlib.Core.List.{List, map}
use Prim.Native.Nat.{ℕ, suc, ◌+◌, ◌-◌, ◌≤◌, ◌<◌}
use native.Mathlib.Decide.{dec_lt}
use native.Mathlib.Omega.{arith}
use lib.ListN.{length-map}
use Rattle.lists.specs.Lists.{Mem, choose}
use Rattle.polygon.specs.Angles.{none, Allowed}
use Rattle.polygon.specs.Polygon.{Edge, Ascending, Polygon, Triangulated, Valid}
use Rattle.polygon.specs.Carried.{carried}
use Rattle.polygon.specs.Tree.{Tree, span, inner, tree_of, PieceOf}
use Rattle.polygon.proofs.Angles.{carried_allowed}
use Rattle.polygon.proofs.Order.{high_of}
use Rattle.edit.specs.Rules.{both}
use Rattle.seam.specs.Join.{laid, matched, seam, glued_edges, glue}
use Rattle.seam.specs.Graft.{graft}
use Rattle.seam.proofs.Grafted.{glued_triangulated}
use Rattle.cut.specs.Cut.{inner_edges, rest_edges, inner_corner, gone, rest_corner, part_on, inner_part, rest_part}
use Rattle.cut.specs.Pruned.{pruned}
use Rattle.cut.proofs.Corners.{Undoes, laid_back, matched_back, map_back}
use Rattle.cut.proofs.Pruned.{pruned_graft}
use Rattle.cut.proofs.Seam.{inner_seconds, rest_firsts}
use Rattle.cut.proofs.Reglued.{of_tree, tree_back, Reglued, reglued}

-- a part on some diagonals of another is valid if they triangulate it
part_valid : (n : ℕ) (f : ℕ → ℕ) (ds : List Edge) (p : Polygon) → 3 ≤ n → n ≤ 1024 → Triangulated n (map (both f) ds) → Allowed p.n p.angles
    → Valid (part_on n f ds p)
unfolding part_on choose
part_valid n f ds p low high T A = record { least = low; most = high; triangulated = T; allowed = go (dec_lt 3 n) }
  where
    go : (d : Dec (3 < n)) → Allowed n (choose d (carried p.ds p.angles ds) none)
    go (yes h) = carried_allowed p.n n p.ds ds p.angles (λ k. h) (omega (arith, T.full, length-map ds (both f))) A
    go (no h) = tt

-- what a joined part's corners and diagonals depend on
glue_same : (i : ℕ) (p p' q q' : Polygon) → p.ds ≡ p'.ds → q.n ≡ q'.n → q.ds ≡ q'.ds → (glue i p q).ds ≡ (glue i p' q').ds
unfolding glue glued_edges
glue_same i p p' q q' e f g = rw (e, f, g)

module _ (c : Edge) (p : Polygon) (P : Valid p) (m : Mem c p.ds) where
  R : Reglued c p
  R = reglued c p P m

  -- the trees of the inner part and of the rest
  abbrev t : Tree
  t = R.t

  abbrev w : Tree
  w = pruned R.piece

  ascending : Ascending (glue c.0 (of_tree w) (of_tree t)).ds
  ascending = (glued_triangulated c.0 (of_tree w) (of_tree t) R.first R.second R.below).ascending

  inner_of_tree : inner_edges c p.ds ≡ map (both (laid c.0)) (inner 0 t)
  inner_of_tree = ap₂ inner_edges R.cut_is R.diagonals ∙ inner_seconds c.0 (of_tree w) (of_tree t) R.first R.second ascending

  rest_of_tree : rest_edges c p.ds ≡ map (both (matched (suc (span t)) c.0)) (inner 0 w)
  rest_of_tree = ap₂ rest_edges R.cut_is R.diagonals ∙ rest_firsts c.0 (of_tree w) (of_tree t) R.first R.second ascending

  undone : Undoes (rest_corner c) (matched (suc (span t)) c.0)
  undone x = ap (λ (e : Edge). rest_corner e (matched (suc (span t)) c.0 x)) R.cut_is ∙ matched_back (suc (span t)) c.0 R.second.least x

  inner_diagonals : (inner_part c p).ds ≡ inner 0 t
  unfolding inner_part part_on
  inner_diagonals = ap (map (both (inner_corner c.0))) inner_of_tree ∙ map_back (inner_corner c.0) (laid c.0) (laid_back c.0) (inner 0 t)

  rest_diagonals : (rest_part c p).ds ≡ inner 0 w
  unfolding rest_part part_on
  rest_diagonals = ap (map (both (rest_corner c))) rest_of_tree ∙ map_back (rest_corner c) (matched (suc (span t)) c.0) undone (inner 0 w)

  inner_corners : (inner_part c p).n ≡ suc (span t)
  unfolding inner_part part_on
  inner_corners = omega (arith, high_of R.cut_is)

  rest_corners : (rest_part c p).n ≡ suc (span w)
  unfolding rest_part part_on
  rest_corners = let k : gone c ≡ c.1 - c.0 - 1 = refl in omega (arith, high_of R.cut_is, R.corners, R.second.least)

  -- the diagonals of each half, under the numbers that they have in the whole
  pub inner_list : inner_edges c p.ds ≡ map (both (laid c.0)) (inner_part c p).ds
  inner_list = rw inner_diagonals inner_of_tree

  pub rest_list : rest_edges c p.ds ≡ map (both (matched (inner_part c p).n c.0)) (rest_part c p).ds
  rest_list = rw (inner_corners, rest_diagonals) rest_of_tree

  pub rest_back : Undoes (rest_corner c) (matched (inner_part c p).n c.0)
  rest_back = rw inner_corners undone

  pub inner_valid : Valid (inner_part c p)
  unfolding inner_part part_on
  inner_valid =
      part_valid _ _ _ p (omega (arith, inner_corners, R.second.least)) (omega (arith, inner_corners, R.second.most))
      (rw (inner_corners, inner_diagonals) R.second.triangulated) P.allowed

  pub rest_valid : Valid (rest_part c p)
  unfolding rest_part part_on
  rest_valid =
      part_valid _ _ _ p (omega (arith, rest_corners, R.first.least)) (omega (arith, rest_corners, R.first.most))
      (rw (rest_corners, rest_diagonals) R.first.triangulated) P.allowed

  inner_tree : tree_of (inner_part c p).n (inner_part c p).ds ≡ t
  inner_tree = rw (inner_corners, inner_diagonals) (tree_back t (omega (arith, R.second.least)))

  rest_tree_is : tree_of (rest_part c p).n (rest_part c p).ds ≡ w
  rest_tree_is = rw (rest_corners, rest_diagonals) (tree_back w (omega (arith, R.first.least)))

  -- the inner part's tree is the piece at the cut, the rest's the tree with a leaf there
  pub halves_trees : (q : PieceOf p.n p.ds c.0 (tree_of (inner_part c p).n (inner_part c p).ds)) × (tree_of (rest_part c p).n (rest_part c p).ds ≡ pruned q)
  halves_trees = rw inner_tree (R.piece, rest_tree_is)

  pub whole_tree : tree_of p.n p.ds ≡ graft c.0 (tree_of (rest_part c p).n (rest_part c p).ds) (tree_of (inner_part c p).n (inner_part c p).ds)
  whole_tree = rw (inner_tree, rest_tree_is) (sym (pruned_graft R.piece c.0 (omega arith)))

  -- the seam is the side of the rest at its corner c .0, no root
  pub rest_side : suc c.0 < (rest_part c p).n
  rest_side = omega (arith, rest_corners, R.below)

  pub cut_seam : c ≡ seam (inner_part c p).n c.0
  cut_seam = rw inner_corners R.cut_is

  pub halves_corners : (rest_part c p).n + (inner_part c p).n ≡ p.n + 2
  halves_corners = omega (arith, inner_corners, rest_corners, R.corners)

  pub joined_corners : (glue c.0 (rest_part c p) (inner_part c p)).n ≡ p.n
  unfolding glue
  joined_corners = omega (arith, halves_corners)

  pub joined_diagonals : (glue c.0 (rest_part c p) (inner_part c p)).ds ≡ p.ds
  joined_diagonals = glue_same c.0 (rest_part c p) (of_tree w) (inner_part c p) (of_tree t) rest_diagonals inner_corners inner_diagonals ∙ sym R.diagonals
