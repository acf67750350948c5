-- The halves of a part in the code's tables: the bends that are kept for one, renumbered, hold it.
use mathlib.Core.Path.{◌≡◌, refl, ap, ◌∙◌}
use mathlib.Core.Logic.{inl}
use mathlib.Core.Bool.{Bool, true, false, ◌&&◌}
use mathlib.Core.List.{List, map}
use Prim.Native.Nat.{ℕ, ◌+◌, ◌-◌, ◌<◌}
use native.Mathlib.Decide.{dec_lt}
use native.Mathlib.Omega.{arith}
use lib.Dec.{ltb}
use lib.ListN.{length, take, length-map}
use Rattle.lists.specs.Lists.{Sub, choose, keep, not?}
use Rattle.lists.proofs.Lists.{all_imp, all_of, keep_sub}
use Rattle.lists.proofs.Kept.{map_keep}
use Rattle.polygon.specs.Angles.{each}
use Rattle.polygon.specs.Polygon.{Edge, ◌—◌, Polygon, Diagonal, Valid}
use Rattle.polygon.proofs.Sort.{distinct_of}
use Rattle.keys.specs.Keys.{edge_of, key_in, keys_in}
use Rattle.keys.proofs.Beside.{bend_edge, bend_edges}
use Rattle.sheet.specs.declared.Head.{Head}
use Rattle.sheet.specs.Hand.{angles_by, part_of}
use Rattle.edit.specs.declared.shift.Shift.{Shift}
use Rattle.edit.specs.declared.shift.Shift.TheVariants.{Down}
use Rattle.edit.specs.Rules.{both}
use Rattle.edit.specs.Tables.{moved, moved_bend, Movable, AllMovable, whole, Whole}
use Rattle.edit.proofs.InHand.{result_angles, Without}
use Rattle.edit.proofs.Shifting.{moved_angles, moved_edges}
use Rattle.cut.specs.Cut.{Beneath, beneath?, inner_edges, rest_edges, inner_corner, rest_corner, part_on, inner_part, rest_part}
use Rattle.cut.specs.Tables.{inner_bends, rest_bends, head_on}
use Rattle.cut.proofs.Edges.{Clear, inner_beneath, rest_clear}
use Rattle.cut.proofs.Valid.{inner_valid, rest_valid}

-- renumbered bends have the angles that they had
moved_by : (d : Bool) (s : Shift) (bs : List ℕ) → angles_by d (map (moved_bend s) bs) ≡ angles_by d bs
moved_by true s bs = ap each (moved_angles s bs)
moved_by false s bs = refl

-- the diagonals of bends that are kept by a test of their diagonal
keep_edges : {Q : Edge → Type 0} (d : (e : Edge) → Dec (Q e)) (bs : List ℕ) → bend_edges (keep (λ b. d (bend_edge b)) bs) ≡ keep d (bend_edges bs)
keep_edges d bs = ap (map edge_of) (map_keep key_in (λ k. d (edge_of k)) bs) ∙ map_keep edge_of d (keys_in bs)

-- to go down by a from 0 on is the renumbering of the inner part
down_all : (a : ℕ) → moved (Down 0 a) ≡ inner_corner a
unfolding choose
down_all a = λ i x. go x (dec_lt 0 x) i
  where
    go : (x : ℕ) (d : Dec (0 < x)) → choose d (x - a) x ≡ x - a
    go x (yes p) = refl
    go x (no p) = omega arith

-- a part that a half tells: it is p, and valid
pub record Holds (p : Polygon) (q : Polygon) : Type 0 where
  pub same : q ≡ p
  pub valid : Valid q

module _ {p : Polygon} {h : Head} {bs : List ℕ} (H : Whole p h bs) where
  -- the part of n corners with the diagonals ds, of which `kept` are the bends, renumbered by s, at the front of the table `after`
  module _ (n : ℕ) (s : Shift) (kept : List ℕ) {ds : List Edge} {f : ℕ → ℕ} (edges : bend_edges kept ≡ ds) (given : Sub kept bs) (by : moved s ≡ f) (can : AllMovable s kept) (valid : Valid (part_on n f ds (whole h bs))) where
    holds_part : (after : List ℕ) → take (length kept) after ≡ map (moved_bend s) kept → Holds (part_on n f ds (whole h bs)) (part_of (head_on h n) after)
    unfolding part_on
    holds_part after R =
        let size : length kept ≡ n - 3 = omega (arith, valid.triangulated.full, length-map ds (both f), ap length edges, length-map (keys_in kept) edge_of, length-map kept key_in) in
        let first : take (n - 3) after ≡ map (moved_bend s) kept = rw size at R in
        let d : Bool = h.angled && ltb 3 n in
        let comes = all_imp (λ x m. inl m) (all_of kept given) in
        let ends = ap bend_edges first ∙ (moved_edges s kept can ∙ (λ i. map (both (by i)) (edges i))) in
        let angles = ap (angles_by d) first ∙ (moved_by d s kept ∙ rw edges at (result_angles h.angled n bs kept bs refl (distinct_of H.valid.triangulated.ascending) comes refl)) in
        let same : part_of (head_on h n) after ≡ part_on n f ds (whole h bs) = λ i. record { n = n; ds = ends i; angles = angles i } in
        record { same = same; valid = rw same valid }

  -- the part is cut at its diagonal (a,b), and `others` are the bends without its bend
  module _ {a b : ℕ} {others : List ℕ} (W : Without h bs (a — b) others) where
    inner_edges_lem : bend_edges (inner_bends (a — b) others) ≡ inner_edges (a — b) (bend_edges bs)
    inner_edges_lem = keep_edges (beneath? (a — b)) others ∙ ap (keep (beneath? (a — b))) W.left

    rest_edges_lem : bend_edges (rest_bends (a — b) others) ≡ rest_edges (a — b) (bend_edges bs)
    rest_edges_lem = keep_edges (λ d. not? (beneath? (a — b) d)) others ∙ ap (keep (λ d. not? (beneath? (a — b) d))) W.left

    pub inner_movable : AllMovable (Down 0 a) (inner_bends (a — b) others)
    inner_movable = rw inner_edges_lem (all_imp falls (inner_beneath (a — b) H.valid.triangulated))
      where
        falls : (e : Edge) → Diagonal h.n e × Beneath (a — b) e → Movable (Down 0 a) e.0 × Movable (Down 0 a) e.1
        falls e (d, k) = ((omega (arith, d.forth, d.corner, H.valid.most), λ l. k.0), (omega (arith, d.corner, H.valid.most), λ l. omega (arith, d.forth)))

    pub rest_movable : AllMovable (Down a (b - a - 1)) (rest_bends (a — b) others)
    rest_movable = rw rest_edges_lem (all_imp falls (rest_clear (a — b) H.valid.triangulated W.member))
      where
        falls : (e : Edge) → Diagonal h.n e × Clear (a — b) e.0 × Clear (a — b) e.1 → Movable (Down a (b - a - 1)) e.0 × Movable (Down a (b - a - 1)) e.1
        falls e (d, l, r) = ((omega (arith, d.forth, d.corner, H.valid.most), λ k. omega (arith, l k)), (omega (arith, d.corner, H.valid.most), λ k. omega (arith, r k)))

    -- the tables begin with them, renumbered
    pub inner_holds : (after : List ℕ) → take (length (inner_bends (a — b) others)) after ≡ map (moved_bend (Down 0 a)) (inner_bends (a — b) others)
        → Holds (inner_part (a — b) p) (part_of (head_on h (b - a + 1)) after)
    unfolding inner_part
    inner_holds after R = rw H.same (holds_part (b - a + 1) (Down 0 a) (inner_bends (a — b) others) inner_edges_lem (λ x m. W.kept x (keep_sub _ others x m)) (down_all a) inner_movable (inner_valid (a — b) (whole h bs) H.valid W.member) after R)

    pub rest_holds : (after : List ℕ) → take (length (rest_bends (a — b) others)) after ≡ map (moved_bend (Down a (b - a - 1))) (rest_bends (a — b) others)
        → Holds (rest_part (a — b) p) (part_of (head_on h (h.n - (b - a - 1))) after)
    unfolding rest_part rest_corner
    rest_holds after R = rw H.same (holds_part (h.n - (b - a - 1)) (Down a (b - a - 1)) (rest_bends (a — b) others) rest_edges_lem (λ x m. W.kept x (keep_sub _ others x m)) refl rest_movable (rest_valid (a — b) (whole h bs) H.valid W.member) after R)
