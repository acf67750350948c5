-- A joined part, cut at its seam, gives its two halves back; with zeros for angles where only the other half had some.
use mathlib.Core.Path.{◌≡◌, refl, ap, sym, ◌∙◌}
use mathlib.Core.Logic.{◌⊎◌, inl, inr, ◌↔◌}
use mathlib.Core.List.{List, map}
use Prim.Native.Nat.{ℕ, suc, ◌+◌, ◌-◌, ◌≤◌, ◌<◌}
use native.Mathlib.Decide.{dec_lt}
use native.Mathlib.Omega.{arith}
use Rattle.lists.specs.Lists.{Mem}
use Rattle.lists.proofs.Lists.{all_of, choose_no, choose_yes, map_same}
use Rattle.polygon.specs.Angles.{Angles, none, each}
use Rattle.polygon.specs.Polygon.{Edge, Polygon, Valid}
use Rattle.polygon.specs.Carried.{angle_from, angle_at}
use Rattle.sheet.specs.Sheet.{angled}
use Rattle.edit.specs.Rules.{both}
use Rattle.edit.proofs.Quad.{turn}
use Rattle.seam.specs.Join.{laid, matched, seam, glue}
use Rattle.seam.proofs.Edges.{seam_diagonal}
use Rattle.seam.proofs.Angles.{first_angles, second_angles, glued_angled}
use Rattle.seam.proofs.Grafted.{glued_valid}
use Rattle.cut.specs.Cut.{inner_corner, gone, rest_corner, part_on, inner_part, rest_part, back_angles, cut_back}
use Rattle.cut.proofs.Corners.{laid_back, matched_back, map_back}
use Rattle.cut.proofs.Seam.{inner_seconds, rest_firsts}
use Rattle.cut.proofs.Valid.{inner_valid, rest_valid}
use Rattle.cut.proofs.Angles.{own_angles, unangled, inner_angles, rest_angles, inner_angled, rest_angled}

-- a part x with the corners, the diagonals and the angles of a half h, and with the bit as a half of it and of one with the angles ys would have it
back_is : (x h : Polygon) (ys : Angles) → Valid x → Valid h → x.n ≡ h.n → x.ds ≡ h.ds → ((d : Edge) → Mem d h.ds → angle_at x d ≡ angle_at h d)
    → ((angled x.angles ≡ 1) ↔ (((angled h.angles ≡ 1) ⊎ (angled ys ≡ 1)) × (3 < h.n))) → x ≡ cut_back h ys
back_is x h ys X H size same angle bit = let a = go h.angles ys refl bit in λ i. record { n = size i; ds = same i; angles = a i }
  where
    own : angled x.angles ≡ 1 → x.angles ≡ each (map (angle_at h) h.ds)
    own e = own_angles x X e ∙ (ap (λ (ds : List Edge). each (map (angle_at x) ds)) same ∙ ap each (map_same (all_of h.ds angle)))

    go : (xs zs : Angles) → h.angles ≡ xs → ((angled x.angles ≡ 1) ↔ (((angled xs ≡ 1) ⊎ (angled zs ≡ 1)) × (3 < h.n)))
        → x.angles ≡ back_angles h.n h.ds xs zs
    go (each vs) zs e b = own (b.1 (inl refl, omega (arith, rw e at H.allowed))) ∙ (sym (own_angles h H (ap angled e)) ∙ e)
    go none none e b = unangled x.angles (λ k. elim (b.0 k).0 [ inl l ↦ absurd (omega arith) | inr l ↦ absurd (omega arith) ])
    go none (each ws) e b = over (dec_lt 3 h.n)
      where
        over : Dec (3 < h.n) → x.angles ≡ back_angles h.n h.ds none (each ws)
        over (yes k) = own (b.1 (inr refl, k)) ∙ (ap (λ (ys : Angles). each (map (angle_from h.ds ys) h.ds)) e ∙ sym (choose_yes (dec_lt 3 h.n) none k))
        over (no k) = unangled x.angles (λ l. k (b.0 l).1) ∙ sym (choose_no (dec_lt 3 h.n) _ k)

pub back_same : (p : Polygon) (ys : Angles) → (angled p.angles ≡ 1) ⊎ (ys ≡ none) → cut_back p ys ≡ p
back_same p ys h = let a = go p.angles ys h in λ i. record { n = p.n; ds = p.ds; angles = a i }
  where
    go : (xs zs : Angles) → (angled xs ≡ 1) ⊎ (zs ≡ none) → back_angles p.n p.ds xs zs ≡ xs
    go (each vs) zs h = refl
    go none none h = refl
    go none (each ws) (inl e) = absurd (omega arith)
    go none (each ws) (inr e) = absurd (omega (arith, ap angled e))

module _ (i : ℕ) (p q : Polygon) (P : Valid p) (Q : Valid q) (below : suc i < p.n) (most : p.n + q.n - 2 ≤ 1024) where
  abbrev c : Edge
  c = seam q.n i

  abbrev g : Polygon
  g = glue i p q

  G : Valid g
  G = glued_valid i p q P Q below most

  m : Mem c g.ds
  m = seam_diagonal i p q

  inner_size : (inner_part c g).n ≡ q.n
  unfolding inner_part part_on
  inner_size = omega (arith, Q.least)

  rest_size : (rest_part c g).n ≡ p.n
  unfolding rest_part part_on glue
  rest_size = let k : gone c ≡ q.n - 2 = omega arith in omega (arith, Q.least, P.least)

  inner_same : (inner_part c g).ds ≡ q.ds
  unfolding inner_part part_on
  inner_same = ap (map (both (inner_corner i))) (inner_seconds i p q P Q G.triangulated.ascending) ∙ map_back (inner_corner i) (laid i) (laid_back i) q.ds

  rest_same : (rest_part c g).ds ≡ p.ds
  unfolding rest_part part_on
  rest_same = ap (map (both (rest_corner c))) (rest_firsts i p q P Q G.triangulated.ascending) ∙ map_back (rest_corner c) (matched q.n i) (matched_back q.n i Q.least) p.ds

  pub inner_back : inner_part c g ≡ cut_back q p.angles
  inner_back =
      back_is (inner_part c g) q p.angles (inner_valid c g G m) Q inner_size inner_same
      (λ d k. inner_angles c g G m d (rw inner_same k) ∙ second_angles i p q P Q d k)
      (rw inner_size at bit)
    where
      bit : (angled (inner_part c g).angles ≡ 1) ↔ (((angled q.angles ≡ 1) ⊎ (angled p.angles ≡ 1)) × (3 < (inner_part c g).n))
      bit = (λ e. (let (a, h) = (inner_angled c g).0 e in (turn ((glued_angled i p q).0 a), h)), λ e. (inner_angled c g).1 ((glued_angled i p q).1 (turn e.0), e.1))

  pub rest_back_part : rest_part c g ≡ cut_back p q.angles
  rest_back_part =
      back_is (rest_part c g) p q.angles (rest_valid c g G m) P rest_size rest_same
      (λ d k. rest_angles c g G m d (rw rest_same k) ∙ (rw inner_size (first_angles i p q P Q d k)))
      (rw rest_size at bit)
    where
      bit : (angled (rest_part c g).angles ≡ 1) ↔ (((angled p.angles ≡ 1) ⊎ (angled q.angles ≡ 1)) × (3 < (rest_part c g).n))
      bit = (λ e. (let (a, h) = (rest_angled c g).0 e in ((glued_angled i p q).0 a, h)), λ e. (rest_angled c g).1 ((glued_angled i p q).1 e.0, e.1))
