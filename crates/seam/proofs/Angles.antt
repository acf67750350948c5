-- Request (xi) of a joined part: each diagonal keeps its angle, the seam starts at 0, and the part has angles exactly if one of its halves has.
use mathlib.Core.Path.{◌≡◌, refl, ap, sym, ◌∙◌}
use mathlib.Core.Logic.{◌⊎◌, inl, inr, ◌↔◌}
use mathlib.Core.List.{List, ◌∷◌, ◌++◌, map, []}
use Prim.Native.Nat.{ℕ}
use native.Mathlib.Omega.{arith}
use lib.ListN.{length, length-map}
use Rattle.lists.specs.Lists.{All, Mem, all_cons, head, sorted_cons, tail}
use Rattle.lists.proofs.Lists.{all_append, all_map, all_mem, all_of, here, mem_left, mem_map, mem_right, there}
use Rattle.polygon.specs.Angles.{Angle, Angles, none, each}
use Rattle.polygon.specs.Polygon.{Edge, Polygon, Triangulated, Valid}
use Rattle.polygon.specs.Order.{sort, Distinct}
use Rattle.polygon.specs.Carried.{angle_of, carried, angle_from, angle_at}
use Rattle.polygon.proofs.Angles.{OneEach, allowed_each, angle_all, angle_carried, angle_here, angle_left, angle_moved, angle_right, angle_there, angle_unlisted}
use Rattle.polygon.proofs.Sort.{distinct_of, sort_mem}
use Rattle.sheet.specs.Sheet.{angled}
use Rattle.edit.specs.Rules.{both}
use Rattle.seam.specs.Join.{laid, matched, seam, glued_edges, zeros, glued_angles, glue}
use Rattle.seam.proofs.Corners.{firsts, seconds, matched_ascending, laid_ascending, seam_not_first, seam_not_second, halves_differ}

-- where all angles are 0
pub angle_zero : (es : List Edge) {vs : List Angle} (e : Edge) → All (λ a. a ≡ 0) vs → angle_of es vs e ≡ 0
angle_zero es e a = angle_all {Q = λ v. v ≡ 0} es e refl a

all_zero : (ds : List Edge) → All (λ a. a ≡ 0) (zeros ds)
all_zero ds = all_map _ (all_of ds (λ e m. refl))

-- the angles of the diagonals ds; where there are none, 0 for each
abbrev filled : List Edge → Angles → List Angle
filled ds none = zeros ds
filled ds (each vs) = vs

angle_filled : (es ds : List Edge) (xs : Angles) (e : Edge) → angle_of es (filled ds xs) e ≡ angle_from es xs e
angle_filled es ds none e = angle_zero es e (all_zero ds)
angle_filled es ds (each vs) e = refl

filled_length : (ds : List Edge) (xs : Angles) → OneEach (length ds) xs → length (filled ds xs) ≡ length ds
filled_length ds none h = length-map ds _
filled_length ds (each vs) h = h

-- the angles of a joined part, also where neither half has any
angle_glued : (gs ds fs : List Edge) (xs ys : Angles) (e : Edge) → angle_from gs (glued_angles ds xs fs ys) e ≡ angle_of gs (filled ds xs ++ (0 ∷ filled fs ys)) e
angle_glued gs ds fs none none e = sym (angle_zero gs e (all_append (all_zero ds) (all_cons refl (all_zero fs))))
angle_glued gs ds fs none (each ws) e = refl
angle_glued gs ds fs (each vs) none e = refl
angle_glued gs ds fs (each vs) (each ws) e = refl

-- edges of one list that have the same new numbers are the same, if no edge is repeated under the new numbers
one_to_one : (g : Edge → Edge) (es : List Edge) → Distinct (map g es) → (x y : Edge) → Mem x es → Mem y es → g x ≡ g y → x ≡ y
one_to_one g (z ∷ es) (sorted_cons o s) x y (head a) (head b) e = a ∙ sym b
one_to_one g (z ∷ es) (sorted_cons o s) x y (head a) (tail b) e = absurd (all_mem o (mem_map g b) (sym e ∙ ap g a))
one_to_one g (z ∷ es) (sorted_cons o s) x y (tail a) (head b) e = absurd (all_mem o (mem_map g a) (e ∙ ap g b))
one_to_one g (z ∷ es) (sorted_cons o s) x y (tail a) (tail b) e = one_to_one g es s x y a b e
one_to_one g [] _ x y a b e = elim a [ ]

-- a half's diagonal has the same angle under its new numbers
renumbered_angle : (g : Edge → Edge) (ds : List Edge) (xs : Angles) (d : Edge) → Distinct (map g ds) → Mem d ds →
    angle_of (map g ds) (filled ds xs) (g d) ≡ angle_from ds xs d
renumbered_angle g ds xs d D m = angle_filled (map g ds) ds xs (g d) ∙ angle_moved g ds xs d (λ x k. one_to_one g ds D x d k m)

-- The diagonals of a joined part as `glued_edges` lists them: in front the first half's, in the rear the seam and the second half's.
module _ (i : ℕ) (p q : Polygon) (A : Valid p) (B : Valid q) where
  P : Triangulated p.n p.ds
  P = A.triangulated

  Q : Triangulated q.n q.ds
  Q = B.triangulated

  abbrev front : List Edge
  front = firsts i p q

  abbrev rear : List Edge
  rear = seam q.n i ∷ seconds i q

  abbrev front_angles : List Angle
  front_angles = filled p.ds p.angles

  abbrev rear_angles : List Angle
  rear_angles = 0 ∷ filled q.ds q.angles

  -- an angle for each
  one_each : length front_angles ≡ length front
  one_each = filled_length p.ds p.angles (allowed_each p.n (length p.ds) p.angles P.full A.allowed) ∙ sym (length-map p.ds _)

  listed : (e : Edge) → Mem e (front ++ rear) → angle_at (glue i p q) e ≡ angle_of (front ++ rear) (front_angles ++ rear_angles) e
  unfolding glue glued_edges
  listed e m =
      let es = front ++ rear in
      angle_carried es (sort es) _ e (sort_mem es e m) ∙ angle_glued es p.ds q.ds p.angles q.angles e

  not_both : (e : Edge) → Mem e front → ¬ Mem e rear
  not_both e m (head h) = all_mem (seam_not_first i p q P Q) m h
  not_both e m (tail k) = all_mem (all_mem (halves_differ i p q P Q) k) m refl

  in_front : (e : Edge) → Mem e front → angle_at (glue i p q) e ≡ angle_of front front_angles e
  in_front e m = listed e (mem_left rear m) ∙ angle_left rear rear_angles e front front_angles one_each (angle_unlisted rear rear_angles e (not_both e m))

  in_rear : (e : Edge) → Mem e rear → angle_at (glue i p q) e ≡ angle_of rear rear_angles e
  in_rear e m = listed e (mem_right front m) ∙ angle_right rear rear_angles e front front_angles one_each (λ k. not_both e k m)

  pub first_angles : (d : Edge) → Mem d p.ds → angle_at (glue i p q) (both (matched q.n i) d) ≡ angle_at p d
  first_angles d m =
      in_front _ (mem_map (both (matched q.n i)) m)
      ∙ renumbered_angle (both (matched q.n i)) p.ds p.angles d (distinct_of (matched_ascending q.n i P)) m

  pub second_angles : (d : Edge) → Mem d q.ds → angle_at (glue i p q) (both (laid i) d) ≡ angle_at q d
  second_angles d m =
      let k = mem_map (both (laid i)) m in
      in_rear _ (there k)
      ∙ (angle_there _ _ _ _ _ (λ e. all_mem (seam_not_second i p q P Q) k (sym e))
      ∙ renumbered_angle (both (laid i)) q.ds q.angles d (distinct_of (laid_ascending i Q)) m)

  -- "as does the diagonal of .. a seam"
  pub seam_angle : angle_at (glue i p q) (seam q.n i) ≡ 0
  seam_angle = in_rear _ here ∙ angle_here _ _ _ _ _ refl

angled_either : (es gs ds fs : List Edge) (xs ys : Angles) → (angled (carried es (glued_angles ds xs fs ys) gs) ≡ 1) ↔ ((angled xs ≡ 1) ⊎ (angled ys ≡ 1))
unfolding carried
angled_either es gs ds fs none none = (λ e. absurd (omega arith), λ s. elim s [ inl e ↦ absurd (omega arith) | inr e ↦ absurd (omega arith) ])
angled_either es gs ds fs none (each ws) = (λ e. inr refl, λ s. refl)
angled_either es gs ds fs (each vs) none = (λ e. inl refl, λ s. refl)
angled_either es gs ds fs (each vs) (each ws) = (λ e. inl refl, λ s. refl)

-- "A result has bit 3 exactly when a sheet it comes from has": a joined part's n is over 3
pub glued_angled : (i : ℕ) (p q : Polygon) → (angled (glue i p q).angles ≡ 1) ↔ ((angled p.angles ≡ 1) ⊎ (angled q.angles ≡ 1))
unfolding glue
glued_angled i p q = angled_either _ _ p.ds q.ds p.angles q.angles
