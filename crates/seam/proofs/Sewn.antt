-- A half in hand, and the part that the bends of both halves stand for: the glued one, with its angles.
use mathlib.Core.Path.{◌≡◌, refl, ap, ap₂, ◌∙◌}
use mathlib.Core.Logic.{inl}
use mathlib.Core.Bool.{Bool, true, false, ◌||◌}
use mathlib.Core.List.{List, ◌∷◌, ◌++◌, map, map-append}
use Prim.Native.Nat.{ℕ, ◌+◌, ◌-◌}
use native.Mathlib.Omega.{arith}
use lib.ListN.{take}
use Rattle.lists.specs.Lists.{All, all_cons, all_nil}
use Rattle.lists.proofs.Lists.{all_imp, all_self}
use Rattle.polygon.specs.Angles.{each}
use Rattle.polygon.specs.Order.{Distinct, sort}
use Rattle.polygon.specs.Carried.{carried}
use Rattle.keys.specs.Keys.{key_of, angle_in, angles_in, flat_bend}
use Rattle.keys.specs.Sort.{sort_keys}
use Rattle.keys.proofs.Insert.{all_sort}
use Rattle.keys.proofs.Beside.{bend_edges, carry}
use Rattle.sheet.specs.declared.Head.{Head}
use Rattle.polygon.specs.Polygon.{Polygon}
use Rattle.sheet.specs.Hand.{angles_by, part_of}
use Rattle.edit.specs.declared.shift.Shift.TheVariants.{Up}
use Rattle.edit.specs.Tables.{whole, moved_bend}
use Rattle.edit.proofs.Shifting.{moved_angles}
use Rattle.seam.specs.Join.{seam, zeros, glued_edges, glued_angles, glue}
use Rattle.seam.specs.Halves.{Half, Joins, laid_bends, glued_bends}
use Rattle.seam.proofs.Corners.{glued_distinct}
use Rattle.seam.proofs.Raising.{raised_angles}
use Rattle.seam.proofs.Sewing.{glued_edges_lem, sorted_edges}

-- bends with the angle 0
all_zeros : {bs : List ℕ} → All (λ b. angle_in b ≡ 0) bs → angles_in bs ≡ zeros (bend_edges bs)
all_zeros all_nil = refl
all_zeros (all_cons e a) = ap₂ ◌∷◌ e (all_zeros a)

-- their angles in the order of the bends, if one of the halves has any
module _ (i m : ℕ) (bs cs : List ℕ) where
  angles_glued : angles_in (glued_bends i m bs cs) ≡ angles_in bs ++ (0 ∷ angles_in cs)
  angles_glued =
      let flat : angle_in (flat_bend (key_of (seam m i))) ≡ 0 = omega arith in
      map-append angle_in (map (moved_bend (Up i (m - 2))) bs) (laid_bends i m cs) ∙ ap₂ ◌++◌ (moved_angles (Up i (m - 2)) bs) (ap₂ ◌∷◌ flat (raised_angles i cs))

  angles_by_lem : (a b : Bool) → (a ≡ false → All (λ x. angle_in x ≡ 0) bs) → (b ≡ false → All (λ x. angle_in x ≡ 0) cs)
      → angles_by (a || b) (glued_bends i m bs cs) ≡ glued_angles (bend_edges bs) (angles_by a bs) (bend_edges cs) (angles_by b cs)
  angles_by_lem true true f g = ap each angles_glued
  angles_by_lem true false f g = ap each (angles_glued ∙ rw (all_zeros (g refl)))
  angles_by_lem false true f g = ap each (angles_glued ∙ rw (all_zeros (f refl)))
  angles_by_lem false false f g = refl

-- sorted, each bend has its own
carried_sorted : (c : Bool) (bs : List ℕ) → Distinct (bend_edges bs) → angles_by c (sort_keys bs) ≡ carried (bend_edges bs) (angles_by c bs) (bend_edges (sort_keys bs))
unfolding carried
carried_sorted true bs d = ap each (carry bs d (all_imp (λ b m. inl m) (all_sort (all_self bs))))
carried_sorted false bs d = refl

-- the head of the joined part
abbrev pub glued_head : Head → Head → Head
glued_head h g = record { n = h.n + g.n - 2; angled = h.angled || g.angled }

module _ {p q : Polygon} {h g : Head} {bs cs : List ℕ} (P : Half p h bs) (Q : Half q g cs) (i : ℕ) (J : Joins i h.n g.n) where
  abbrev glued : List ℕ
  glued = glued_bends i g.n bs cs

  pub glued_part : (after : List ℕ) → take (h.n + g.n - 5) after ≡ sort_keys glued → part_of (glued_head h g) after ≡ glue i (whole h bs) (whole g cs)
  unfolding glue
  glued_part after e =
      let E : bend_edges glued ≡ glued_edges i (whole h bs) (whole g cs) = glued_edges_lem h g bs cs P.part.valid Q.part.valid i J in
      let D : Distinct (bend_edges glued) = rw E (glued_distinct i (whole h bs) (whole g cs) P.part.valid.triangulated Q.part.valid.triangulated) in
      let size : h.n + g.n - 2 - 3 ≡ h.n + g.n - 5 = omega arith in
      let k : take (h.n + g.n - 2 - 3) after ≡ sort_keys glued = ap (λ (j : ℕ). take j after) size ∙ e in
      let ds : bend_edges (sort_keys glued) ≡ sort (glued_edges i (whole h bs) (whole g cs)) = sorted_edges glued D ∙ ap sort E in
      let xs = angles_by_lem i g.n bs cs h.angled g.angled P.flat Q.flat in
      let c : Bool = h.angled || g.angled in
      let edges = ap bend_edges k ∙ ds in
      let angles = ap (angles_by c) k ∙ (carried_sorted c glued D ∙ (λ j. carried (E j) (xs j) (ds j))) in
      λ j. record { n = h.n + g.n - 2; ds = edges j; angles = angles j }
