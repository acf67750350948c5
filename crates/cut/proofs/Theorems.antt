-- The theorems of this crate in one place. To be read with specs/Cut.antt (the two parts that cutting gives, and the operation) and specs/Pruned.antt (the rest's tree).
-- p is the part, c the diagonal along which it is cut, lower corner first: c.0 is a, c.1 is b.
use mathlib.Core.Path.{◌≡◌, ap, ◌∙◌}
use mathlib.Core.Logic.{◌⊎◌, inl, inr, ◌↔◌}
use mathlib.Core.List.{List}
use Prim.Native.Nat.{ℕ, suc, ◌+◌, ◌-◌, ◌≤◌, ◌<◌}
use native.Mathlib.Omega.{arith}
use Rattle.lists.specs.Lists.{Mem}
use Rattle.polygon.specs.Angles.{Angles, none}
use Rattle.polygon.specs.Polygon.{Edge, Polygon, bare, Valid, Linked}
use Rattle.polygon.specs.Order.{lower_first}
use Rattle.polygon.specs.Tree.{tree_of, PieceOf}
use Rattle.polygon.specs.Carried.{angle_at}
use Rattle.polygon.proofs.Order.{high_of}
use Rattle.codec.specs.Answer.{refuse, write}
use Rattle.codec.specs.TwoOutputs.{refuse_both, write_both}
use Rattle.sheet.specs.Sheet.{refused, held, angled, read_sheet, normal_sheet}
use Rattle.sheet.proofs.Back.{read_back}
use Rattle.sheet.proofs.Normal.{lower_first_same}
use Rattle.edit.specs.Rules.{both, flip, flat_at}
use Rattle.edit.specs.Calls.{edited}
use Rattle.umbrella.specs.Plan.{levels}
use Rattle.umbrella.specs.Values.{ud}
use Rattle.umbrella.specs.Best.{plan_of}
use Rattle.umbrella.proofs.Theorems.{computed_has}
use Rattle.seam.specs.Join.{laid, matched, seam, glue, Image, joined_sheets}
use Rattle.seam.specs.Graft.{graft}
use Rattle.seam.proofs.Grown.{graft_levels}
use Rattle.seam.proofs.Theorems as joining
use Rattle.cut.specs.Cut.{inner_part, rest_part, cut_sheet, rejoined, cut_back}
use Rattle.cut.specs.Pruned.{pruned}
use Rattle.cut.proofs.Valid as valid
use Rattle.cut.proofs.Angles as angles
use Rattle.cut.proofs.Rejoined as again
use Rattle.cut.proofs.Back as back
use Rattle.cut.proofs.Answers as answers

module _ (c : Edge) (p : Polygon) (P : Valid p) (m : Mem c p.ds) where
  -- Both halves are valid parts, and what is written for each is read as it again.
  pub inner_valid : Valid (inner_part c p)
  inner_valid = valid.inner_valid c p P m

  pub rest_valid : Valid (rest_part c p)
  rest_valid = valid.rest_valid c p P m

  pub inner_reads : read_sheet (normal_sheet (inner_part c p)) ≡ held (inner_part c p)
  inner_reads = read_back (inner_part c p) inner_valid

  pub rest_reads : read_sheet (normal_sheet (rest_part c p)) ≡ held (rest_part c p)
  rest_reads = read_back (rest_part c p) rest_valid

  -- "corners a to b, rooted at the cut, and the rest with its old root": the inner part's tree is the piece at the cut, and the rest's is the whole's with a leaf in its place.
  pub halves_trees : (q : PieceOf p.n p.ds c.0 (tree_of (inner_part c p).n (inner_part c p).ds)) × (tree_of (rest_part c p).n (rest_part c p).ds ≡ pruned q)
  halves_trees = valid.halves_trees c p P m

  -- The sides and diagonals of the whole are exactly those of the two halves: the inner part's corner j was a+j, the rest's later corners have moved down, and the cut is in both.
  pub whole_edges_are : (x y : ℕ) → Linked p.n p.ds x y ↔ (Image (matched (inner_part c p).n c.0) (rest_part c p) x y ⊎ Image (laid c.0) (inner_part c p) x y)
  whole_edges_are x y =
      rw (valid.joined_corners c p P m, valid.joined_diagonals c p P m) at (joining.glued_edges_are c.0 (rest_part c p) (inner_part c p) rest_valid inner_valid (valid.rest_side c p P m) x y)

  -- The two ends of the cut are corners of both. The cut is the inner part's root edge and the rest's side a, which is not its root.
  pub inner_corners : (inner_part c p).n + c.0 ≡ suc c.1
  inner_corners = let k : c.1 ≡ c.0 + ((inner_part c p).n - 1) = high_of (valid.cut_seam c p P m) in omega (arith, inner_valid.least)

  pub halves_corners : (rest_part c p).n + (inner_part c p).n ≡ p.n + 2
  halves_corners = valid.halves_corners c p P m

  pub rest_side : suc c.0 < (rest_part c p).n
  rest_side = valid.rest_side c p P m

  pub cut_is_seam : c ≡ seam (inner_part c p).n c.0
  cut_is_seam = valid.cut_seam c p P m

  -- "Neither half has more levels than the whole."
  pub halves_levels : (levels (plan_of (inner_part c p)) ≤ levels (plan_of p)) × (levels (plan_of (rest_part c p)) ≤ levels (plan_of p))
  halves_levels =
      let s = tree_of (rest_part c p).n (rest_part c p).ds in
      let t = tree_of (inner_part c p).n (inner_part c p).ds in
      let w : levels (plan_of p) ≡ ud (graft c.0 s t) = rw (valid.whole_tree c p P m) (computed_has (graft c.0 s t)) in
      let (h, k, l) = graft_levels c.0 s t in
      rw (w, computed_has s, computed_has t) (k, h)

  -- "Joining them again at the same seam gives the part set in order.": the rest first, the inner part on its side a. "but for a 0 on the seam, or without angles when both halves are triangles" is in `rejoined`.
  pub joined_again : glue c.0 (rest_part c p) (inner_part c p) ≡ rejoined c p
  joined_again = again.joined_again c p P m

  pub sheets_joined_again : joined_sheets (normal_sheet (rest_part c p)) (normal_sheet (inner_part c p)) c.0 ≡ write (normal_sheet (rejoined c p))
  sheets_joined_again =
      joining.joined_writes (normal_sheet (rest_part c p)) (normal_sheet (inner_part c p)) c.0 rest_reads inner_reads
      rest_side (omega (arith, halves_corners, P.most))
      ∙ ap (λ (g : Polygon). write (normal_sheet g)) joined_again

  pub bare_rejoined : p.angles ≡ none → rejoined c p ≡ p
  bare_rejoined = again.bare_rejoined c p P m

  pub both_triangles : (((inner_part c p).n ≡ 3) × ((rest_part c p).n ≡ 3)) ↔ (p.n ≤ 4)
  both_triangles = again.both_triangles c p P m

  -- Request (xi): each diagonal of a half keeps its angle.
  pub inner_angles : (d : Edge) → Mem d (inner_part c p).ds → angle_at (inner_part c p) d ≡ angle_at p (both (laid c.0) d)
  inner_angles = angles.inner_angles c p P m

  pub rest_angles : (d : Edge) → Mem d (rest_part c p).ds → angle_at (rest_part c p) d ≡ angle_at p (both (matched (inner_part c p).n c.0) d)
  rest_angles = angles.rest_angles c p P m

pub many_rejoined : (c : Edge) (p : Polygon) → 4 < p.n → rejoined c p ≡ flat_at c p
many_rejoined = again.many_rejoined

pub four_rejoined : (c : Edge) (p : Polygon) → p.n ≤ 4 → rejoined c p ≡ bare p
four_rejoined = again.four_rejoined

-- "A result has bit 3 exactly when a sheet it comes from has and its own n is over 3"
pub inner_angled : (c : Edge) (p : Polygon) → (angled (inner_part c p).angles ≡ 1) ↔ ((angled p.angles ≡ 1) × (3 < (inner_part c p).n))
inner_angled = angles.inner_angled

pub rest_angled : (c : Edge) (p : Polygon) → (angled (rest_part c p).angles ≡ 1) ↔ ((angled p.angles ≡ 1) × (3 < (rest_part c p).n))
rest_angled = angles.rest_angled

-- A joined part, cut at its seam, gives its two halves back, but for zeros where only the other half had angles (`cut_back`): the second is the inner part, the first the rest.
module _ (i : ℕ) (p q : Polygon) (P : Valid p) (Q : Valid q) (below : suc i < p.n) (most : p.n + q.n - 2 ≤ 1024) where
  pub seam_cut : (inner_part (seam q.n i) (glue i p q) ≡ cut_back q p.angles) × (rest_part (seam q.n i) (glue i p q) ≡ cut_back p q.angles)
  seam_cut = (back.inner_back i p q P Q below most, back.rest_back_part i p q P Q below most)

  pub sheet_seam_cut : cut_sheet (normal_sheet (glue i p q)) i (i + (q.n - 1)) ≡ write_both (normal_sheet (cut_back q p.angles)) (normal_sheet (cut_back p q.angles))
  sheet_seam_cut =
      let k : lower_first (seam q.n i) ≡ seam q.n i = lower_first_same (seam q.n i) (omega arith) in
      answers.cut_writes (normal_sheet (glue i p q)) i (i + (q.n - 1)) (joining.glued_back i p q P Q below most) (rw k (joining.seam_diagonal i p q))
      ∙ rw (k, seam_cut.0, seam_cut.1)

-- they are the halves themselves where the other half had no angles, or the half itself had some
pub back_same : (p : Polygon) (ys : Angles) → (angled p.angles ≡ 1) ⊎ (ys ≡ none) → cut_back p ys ≡ p
back_same = back.back_same

-- "Refusals are those of turning a diagonal": of any sheet s and any two numbers a and b, in either order
module _ (s : List ℕ) (a b : ℕ) where
  pub refused_as_turning : (k : ℕ) → (cut_sheet s a b ≡ refuse_both k) ↔ (edited (flip a b) s ≡ refuse k)
  refused_as_turning = answers.refused_as_turning s a b

  pub either_named : cut_sheet s a b ≡ cut_sheet s b a
  either_named = answers.either_named s a b

  pub sheet_refused : {k : ℕ} → read_sheet s ≡ refused k → cut_sheet s a b ≡ refuse_both k
  sheet_refused = answers.sheet_refused s a b

  module _ {p : Polygon} (e : read_sheet s ≡ held p) where
    pub by_9 : (p.n ≤ a) ⊎ (p.n ≤ b) → cut_sheet s a b ≡ refuse_both 9
    by_9 h = answers.by_9 s a b e (λ k. elim h [ inl i ↦ omega arith | inr i ↦ omega arith ])

    -- "a side, the root or equal corners"
    pub by_13 : a < p.n → b < p.n → ¬ Mem (lower_first (a, b)) p.ds → cut_sheet s a b ≡ refuse_both 13
    by_13 h k f = answers.by_13 s a b e (h, k) f

    pub cut_writes : Mem (lower_first (a, b)) p.ds
        → cut_sheet s a b ≡ write_both (normal_sheet (inner_part (lower_first (a, b)) p)) (normal_sheet (rest_part (lower_first (a, b)) p))
    cut_writes = answers.cut_writes s a b e

  -- what is written is written of the halves of the part that is read
  pub cut_wrote : {t u : List ℕ} → cut_sheet s a b ≡ write_both t u
      → (p : Polygon) × (read_sheet s ≡ held p) × (normal_sheet (inner_part (lower_first (a, b)) p) ≡ t) × (normal_sheet (rest_part (lower_first (a, b)) p) ≡ u)
  cut_wrote = answers.cut_wrote s a b
