-- "Joining them again at the same seam gives the part set in order": the rest and the inner part, joined, are the part again, but for its angle at the cut, which is 0, and without angles if both are triangles.
use mathlib.Core.Path.{◌≡◌, refl, ap, sym, ◌∙◌}
use mathlib.Core.Logic.{◌⊎◌, inl, inr, ◌↔◌}
use mathlib.Core.List.{List, map}
use Prim.Native.Nat.{◌+◌, ◌≤◌, ◌<◌}
use native.Mathlib.Decide.{dec_lt}
use native.Mathlib.Omega.{arith}
use Rattle.lists.specs.Lists.{All, Mem, all_cons, choose}
use Rattle.lists.proofs.Lists.{all_append, all_map, all_mem, all_of, choose_no, choose_same, choose_yes, map_same, mem_map}
use Rattle.polygon.specs.Angles.{Angles, none, each}
use Rattle.polygon.specs.Polygon.{Edge, Polygon, bare, Valid}
use Rattle.polygon.specs.Order.{same?}
use Rattle.polygon.specs.Carried.{angle_from, angle_at}
use Rattle.polygon.proofs.Sort.{sort_sub}
use Rattle.sheet.specs.Sheet.{angled}
use Rattle.edit.specs.Rules.{both, zero_at, flat_at}
use Rattle.seam.specs.Join.{laid, matched, glued_edges, glue}
use Rattle.seam.proofs.Angles.{first_angles, second_angles, seam_angle, glued_angled}
use Rattle.seam.proofs.Corners.{seam_not_first, seam_not_second}
use Rattle.seam.proofs.Grafted.{glued_valid}
use Rattle.cut.specs.Cut.{inner_part, rest_part, rejoined}
use Rattle.cut.proofs.Valid.{inner_valid, rest_valid, rest_side, cut_seam, halves_corners, joined_corners, joined_diagonals}
use Rattle.cut.proofs.Angles.{own_angles, unangled, inner_angles, rest_angles, inner_angled, rest_angled}

module _ (c : Edge) (p : Polygon) (P : Valid p) (m : Mem c p.ds) where
  abbrev r : Polygon
  r = rest_part c p

  abbrev q : Polygon
  q = inner_part c p

  abbrev g : Polygon
  g = glue c.0 r q

  W : Valid r
  W = rest_valid c p P m

  Q : Valid q
  Q = inner_valid c p P m

  sizes : r.n + q.n ≡ p.n + 2
  sizes = halves_corners c p P m

  G : Valid g
  G = glued_valid c.0 r q W Q (rest_side c p P m) (omega (arith, sizes, P.most))

  -- each diagonal has its angle again, and the cut has 0
  abbrev Again : Edge → Type 0
  Again d = angle_at g d ≡ choose (same? d c) 0 (angle_at p d)

  again : All Again (glued_edges c.0 r q)
  unfolding glued_edges
  again =
      all_append
      (all_map _ (all_of r.ds (λ d k. first_angles c.0 r q W Q d k ∙ (rest_angles c p P m d k ∙ sym (choose_no (same? _ c) 0 (other_first d k))))))
      (all_cons
      (seam_angle c.0 r q W Q ∙ sym (choose_yes (same? _ c) _ (sym (cut_seam c p P m))))
      (all_map _ (all_of q.ds (λ d k. second_angles c.0 r q W Q d k ∙ (inner_angles c p P m d k ∙ sym (choose_no (same? _ c) 0 (other_second d k)))))))
    where
      other_first : (d : Edge) → Mem d r.ds → ¬ (both (matched q.n c.0) d ≡ c)
      other_first d k e = all_mem (seam_not_first c.0 r q W.triangulated Q.triangulated) (mem_map (both (matched q.n c.0)) k) (e ∙ cut_seam c p P m)

      other_second : (d : Edge) → Mem d q.ds → ¬ (both (laid c.0) d ≡ c)
      other_second d k e = all_mem (seam_not_second c.0 r q W.triangulated Q.triangulated) (mem_map (both (laid c.0)) k) (e ∙ cut_seam c p P m)

  again_at : (d : Edge) → Mem d p.ds → Again d
  unfolding glue
  again_at d k = all_mem again (sort_sub (glued_edges c.0 r q) d (rw (sym (joined_diagonals c p P m)) at k))

  -- the whole has angles, and a half keeps some; or there are none
  some_angles : angled p.angles ≡ 1 → 4 < p.n → angled g.angles ≡ 1
  some_angles a h = (glued_angled c.0 r q).1 (go (dec_lt 3 r.n))
    where
      go : Dec (3 < r.n) → (angled r.angles ≡ 1) ⊎ (angled q.angles ≡ 1)
      go (yes k) = inl ((rest_angled c p).1 (a, k))
      go (no k) = inr ((inner_angled c p).1 (a, omega (arith, sizes)))

  no_angles : ¬ ((angled p.angles ≡ 1) × (4 < p.n)) → g.angles ≡ none
  no_angles f =
      unangled g.angles (λ a. elim ((glued_angled c.0 r q).0 a) [
        | inl k ↦ (let (b, h) = (rest_angled c p).0 k in f (b, omega (arith, sizes, Q.least)))
        | inr k ↦ (let (b, h) = (inner_angled c p).0 k in f (b, omega (arith, sizes, W.least)))
      ])

  angles_again : (xs : Angles) → p.angles ≡ xs → g.angles ≡ choose (dec_lt 4 p.n) (zero_at c p.ds xs) none
  unfolding choose
  angles_again none e = no_angles (λ k. absurd (omega (arith, ap angled e, k.0))) ∙ sym (choose_same (dec_lt 4 p.n) none)
  angles_again (each vs) e = go (dec_lt 4 p.n)
    where
      go : (d : Dec (4 < p.n)) → g.angles ≡ choose d (zero_at c p.ds (each vs)) none
      go (no h) = no_angles (λ k. h k.1)
      go (yes h) =
          own_angles g G (some_angles (ap angled e) h)
          ∙ (ap (λ (ds : List Edge). each (map (angle_at g) ds)) (joined_diagonals c p P m)
          ∙ ap each (map_same (all_of p.ds (λ d k. again_at d k ∙ ap (λ (xs : Angles). choose (same? d c) 0 (angle_from p.ds xs d)) e))))

  pub joined_again : glue c.0 (rest_part c p) (inner_part c p) ≡ rejoined c p
  unfolding glue
  joined_again =
      let a = joined_corners c p P m in
      let b = joined_diagonals c p P m in
      let d = angles_again p.angles refl in
      λ i. record { n = a i; ds = b i; angles = d i }

  -- a part without angles is given again as it is
  pub bare_rejoined : p.angles ≡ none → rejoined c p ≡ p
  bare_rejoined e =
      let d = ap (λ (xs : Angles). choose (dec_lt 4 p.n) (zero_at c p.ds xs) none) e ∙ (choose_same (dec_lt 4 p.n) none ∙ sym e) in
      λ i. record { n = p.n; ds = p.ds; angles = d i }

-- with more than four corners, and with four, when both halves are triangles
pub many_rejoined : (c : Edge) (p : Polygon) → 4 < p.n → rejoined c p ≡ flat_at c p
many_rejoined c p h = let a = choose_yes (dec_lt 4 p.n) none h in λ i. record { n = p.n; ds = p.ds; angles = a i }

pub four_rejoined : (c : Edge) (p : Polygon) → p.n ≤ 4 → rejoined c p ≡ bare p
four_rejoined c p h = let a = choose_no (dec_lt 4 p.n) (flat_at c p).angles (λ k. omega arith) in λ i. record { n = p.n; ds = p.ds; angles = a i }

pub both_triangles : (c : Edge) (p : Polygon) → Valid p → Mem c p.ds → (((inner_part c p).n ≡ 3) × ((rest_part c p).n ≡ 3)) ↔ (p.n ≤ 4)
both_triangles c p P m =
    let k = halves_corners c p P m in
    let v = (inner_valid c p P m).least in
    let w = (rest_valid c p P m).least in
    (λ h. omega arith, λ h. (omega arith, omega arith))
