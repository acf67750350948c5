-- The theorems of this crate in one place. To be read with specs/Join.antt (the part that joining gives, and the operation) and specs/Graft.antt (its tree).
-- p is the first part, of n corners, q the second, of m, which is laid on side i of the first, i below n-1.
use mathlib.Core.Path.{◌≡◌}
use mathlib.Core.Logic.{◌⊎◌, ◌↔◌}
use mathlib.Core.List.{List}
use Prim.Native.Nat.{ℕ, suc, ◌+◌, ◌-◌, ◌≤◌, ◌<◌}
use native.Mathlib.Omega.{arith}
use Rattle.lists.specs.Lists.{Mem}
use Rattle.polygon.specs.Polygon.{Edge, ◌—◌, Polygon, Valid, Linked}
use Rattle.polygon.specs.Tree.{Tree, tree_of, PieceOf}
use Rattle.polygon.specs.Carried.{angle_at}
use Rattle.codec.specs.Answer.{refuse, write}
use Rattle.sheet.specs.Sheet.{refused, held, angled, read_sheet, normal_sheet}
use Rattle.sheet.proofs.Back.{read_back}
use Rattle.edit.specs.Rules.{add_ear, both}
use Rattle.edit.specs.Calls.{edited}
use Rattle.umbrella.specs.Plan.{levels}
use Rattle.umbrella.specs.Values.{ud}
use Rattle.umbrella.specs.Best.{plan_of}
use Rattle.umbrella.proofs.Theorems.{computed_has}
use Rattle.seam.specs.Join.{laid, matched, seam, glue, Image, join_rule, joined_sheets}
use Rattle.seam.specs.Graft.{graft}
use Rattle.seam.proofs.Grown as grown
use Rattle.seam.proofs.Grafted as grafted
use Rattle.seam.proofs.Edges as edges
use Rattle.seam.proofs.Angles as angles
use Rattle.seam.proofs.Triangle as triangle
use Rattle.seam.proofs.Answers as answers

-- The seam is the second's root edge and the first's side i, both under their new numbers: "its last falls on the first part's old corner i+1".
pub seam_of_both : (m i : ℕ) → 3 ≤ m → (both (matched m i) (i — suc i) ≡ seam m i) × (both (laid i) (0 — (m - 1)) ≡ seam m i)
seam_of_both = edges.seam_of_both

-- "The seam turns into a diagonal."
pub seam_diagonal : (i : ℕ) (p q : Polygon) → Mem (seam q.n i) (glue i p q).ds
seam_diagonal = edges.seam_diagonal

-- Each of the six values that document 004 gives an edge grows by at most the levels of the grafted tree, and none falls.
pub graft_values : (i : ℕ) (s t : Tree) → grown.ValuesRaised (ud t) s (graft i s t)
graft_values = grown.graft_values

module _ (i : ℕ) (p q : Polygon) (P : Valid p) (Q : Valid q) (below : suc i < p.n) where
  -- The sides and diagonals of the joined part are exactly those of the first, its later corners moved up to match, and those of the second, its corner j become i+j.
  pub glued_edges_are : (x y : ℕ) → Linked (glue i p q).n (glue i p q).ds x y ↔ (Image (matched q.n i) p x y ⊎ Image (laid i) q x y)
  glued_edges_are = edges.glued_edges_are i p q Q.least below

  -- It is a valid part, unless "more than 1,024 corners would result".
  pub glued_valid : p.n + q.n - 2 ≤ 1024 → Valid (glue i p q)
  glued_valid = grafted.glued_valid i p q P Q below

  -- Its tree is the first's with the second's in the place of leaf i, which side i is; the piece beyond the seam is the second part.
  pub glued_tree : tree_of (glue i p q).n (glue i p q).ds ≡ graft i (tree_of p.n p.ds) (tree_of q.n q.ds)
  glued_tree = grafted.glued_tree i p q P Q below

  pub seam_piece : PieceOf (glue i p q).n (glue i p q).ds i (tree_of q.n q.ds)
  seam_piece = grafted.seam_piece i p q P Q below

  -- "its levels are at least those of either half and at most their sum"
  pub glued_levels : (levels (plan_of p) ≤ levels (plan_of (glue i p q))) × (levels (plan_of q) ≤ levels (plan_of (glue i p q)))
      × (levels (plan_of (glue i p q)) ≤ levels (plan_of p) + levels (plan_of q))
  glued_levels =
      let s = tree_of p.n p.ds in
      let t = tree_of q.n q.ds in
      let g : levels (plan_of (glue i p q)) ≡ ud (graft i s t) = rw glued_tree (computed_has (graft i s t)) in
      rw (g, computed_has s, computed_has t) (grown.graft_levels i s t)

  -- What is written is read as the joined part again.
  pub glued_back : p.n + q.n - 2 ≤ 1024 → read_sheet (normal_sheet (glue i p q)) ≡ held (glue i p q)
  glued_back most = read_back (glue i p q) (glued_valid most)

-- Request (xi): each diagonal keeps its angle, 0 if its half has none, and the seam starts at 0; the part has angles exactly if one of the halves has.
module _ (i : ℕ) (p q : Polygon) (P : Valid p) (Q : Valid q) where
  pub first_angles : (d : Edge) → Mem d p.ds → angle_at (glue i p q) (both (matched q.n i) d) ≡ angle_at p d
  first_angles = angles.first_angles i p q P Q

  pub second_angles : (d : Edge) → Mem d q.ds → angle_at (glue i p q) (both (laid i) d) ≡ angle_at q d
  second_angles = angles.second_angles i p q P Q

  pub seam_angle : angle_at (glue i p q) (seam q.n i) ≡ 0
  seam_angle = angles.seam_angle i p q P Q

-- "and its own n is over 3", which it always is
pub joined_angled : (i : ℕ) (p q : Polygon) {g : Polygon} → join_rule i p q ≡ held g
    → ((angled g.angles ≡ 1) ↔ ((angled p.angles ≡ 1) ⊎ (angled q.angles ≡ 1))) × (Valid p → Valid q → 3 < g.n)
unfolding glue
joined_angled i p q r = let (j, same) = answers.join_given i p q r in rw same (angles.glued_angled i p q, λ P Q. omega (arith, P.least, Q.least))

-- Joining a triangle on a side other than the root writes the bytes that adding a corner there writes, and refuses as that does.
pub joined_triangle : (s t : List ℕ) (i : ℕ) (q : Polygon) → read_sheet t ≡ held q → q.n ≡ 3 → ((p : Polygon) → read_sheet s ≡ held p → ¬ (suc i ≡ p.n))
    → joined_sheets s t i ≡ edited (add_ear i) s
joined_triangle = triangle.joined_triangle

-- "The first sheet's refusals come before the second's; then 9 also for the root side, 10 when more than 1,024 corners would result, then 8.": the sheets s and t, and any side
module _ (s t : List ℕ) (i : ℕ) where
  pub first_refused : {k : ℕ} → read_sheet s ≡ refused k → joined_sheets s t i ≡ refuse k
  first_refused = answers.first_refused s t i

  module _ {p : Polygon} (d : read_sheet s ≡ held p) where
    pub second_refused : {k : ℕ} → read_sheet t ≡ refused k → joined_sheets s t i ≡ refuse k
    second_refused = answers.second_refused s t i d

    module _ {q : Polygon} (e : read_sheet t ≡ held q) where
      pub by_9 : p.n ≤ suc i → joined_sheets s t i ≡ refuse 9
      by_9 h = answers.by_9 s t i d e (omega arith)

      pub by_10 : suc i < p.n → 1024 < p.n + q.n - 2 → joined_sheets s t i ≡ refuse 10
      by_10 h k = answers.by_10 s t i d e h (omega arith)

      pub joined_writes : suc i < p.n → p.n + q.n - 2 ≤ 1024 → joined_sheets s t i ≡ write (normal_sheet (glue i p q))
      joined_writes h k = answers.joined_writes s t i d e (h, k)
