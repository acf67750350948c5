-- Which sheets are accepted: those that list a valid part (`Lists` of specs/Listing.antt). The order of the pairs and of their corners does not matter.
use mathlib.Core.Path.{◌≡◌, refl, ap, sym, ◌∙◌}
use mathlib.Core.Logic.{◌↔◌}
use mathlib.Core.List.{List}
use Prim.Native.Nat.{ℕ, zero, suc, ◌-◌, ◌<◌}
use native.Mathlib.Omega.{arith}
use lib.ListN.{length, get_or}
use Rattle.lists.specs.Lists.{All, Sub}
use Rattle.lists.proofs.Lists.{all_imp, all_mem, all_of}
use Rattle.polygon.specs.Angles.{Angle, Angles, none, each}
use Rattle.polygon.specs.Polygon.{Edge, Polygon, Valid}
use Rattle.polygon.specs.Order.{sort}
use Rattle.polygon.specs.Carried.{carried}
use Rattle.polygon.proofs.Angles.{carried_via, carried_self, carried_allowed, allowed_each}
use Rattle.polygon.proofs.Sort.{sort_sub, sort_mem, sort_is, distinct_of}
use Rattle.polygon.proofs.Reading.{same_set}
use Rattle.codec.specs.Numbers.{get16}
use Rattle.sheet.specs.Sheet.{held, bit1, bit3, more, angles_if, listed_angles, angled, read_sheet, normal_sheet}
use Rattle.sheet.specs.Listing.{pairs_of, Lists}
use Rattle.sheet.specs.Framed.{Framed}
use Rattle.sheet.proofs.Asks.{edges_in, angles_of, part_in, Form, form_held, held_form}
use Rattle.sheet.proofs.Fields.{more_stands, stands_more, length_is, angles_at_lem}
use Rattle.sheet.proofs.Normal.{pairs_count}
use Rattle.sheet.proofs.Valid.{read_triangulated, read_valid}

-- the pairs of an accepted sheet have each its own angle
own_angles : {s : List ℕ} → Form s → carried (edges_in s) (angles_of s) (edges_in s) ≡ angles_of s
own_angles {s} W = carried_self (angles_of s) W.paired.distinct (allowed_each (get16 s 1) _ (angles_of s) (omega (arith, pairs_count s 3 (get16 s 1 - 3), W.paired.framed.least)) W.allowed)

-- an accepted sheet lists what it holds
form_lists : {s : List ℕ} → Form s → Lists s (part_in s)
form_lists {s} W = record {
  four_fields = W.paired.framed.small;
  count_stands = W.paired.framed.low;
  corners = refl;
  pairs_stand = more_stands _ _ W.paired.framed.agrees;
  exact = W.paired.framed.exact;
  once = W.paired.distinct;
  diagonals_listed = sort_sub (edges_in s);
  listed_diagonals = sort_mem (edges_in s);
  angles_listed = sym (carried_via (edges_in s) (sort (edges_in s)) (edges_in s) (angles_of s) (sort_mem (edges_in s)) ∙ own_angles W);
}

-- a sheet that lists a valid part is accepted, and holds that part
module _ {s : List ℕ} {p : Polygon} (v : Valid p) (L : Lists s p) where
  among : {Q : Edge → Type 0} → All Q p.ds → All Q (pairs_of s p.n)
  among a = all_of (pairs_of s p.n) (λ e m. all_mem a (L.listed_diagonals e m))

  lists_framed : Framed s
  lists_framed =
      let agrees : bit1 (get_or s 0 0) ≡ more p.n = stands_more _ _ (omega arith) L.pairs_stand in
      let size = length_is (get_or s 0 0) p.n L.count_stands v.least agrees in
      let at = angles_at_lem (get_or s 0 0) p.n in
      record {
        some = omega (arith, size, at, L.exact);
        low = L.count_stands;
        small = L.four_fields;
        three = omega (arith, size, at, L.exact);
        least = rw L.corners v.least;
        most = rw L.corners v.most;
        agrees = rw L.corners agrees;
        exact = rw L.corners L.exact;
      }

  lists_form : Form s
  lists_form = record {
    paired = record {
      framed = lists_framed;
      diagonals = rw L.corners (among v.triangulated.diagonals);
      distinct = rw L.corners L.once;
      none_cross = rw L.corners (among (all_imp (λ e a. among a) v.triangulated.none_cross));
    };
    allowed = rw (L.corners, L.angles_listed) (carried_allowed p.n p.n p.ds (pairs_of s p.n) p.angles (λ h. h) (omega (arith, pairs_count s 3 (p.n - 3), v.least)) v.allowed);
  }

  lists_part : part_in s ≡ p
  lists_part =
      let ds = sort_is (pairs_of s p.n) p.ds L.once v.triangulated.ascending L.listed_diagonals L.diagonals_listed in
      let own = carried_self p.angles (distinct_of v.triangulated.ascending) (allowed_each p.n _ p.angles v.triangulated.full v.allowed) in
      let angles : carried (pairs_of s p.n) (listed_angles s p.n) p.ds ≡ p.angles = rw L.angles_listed (carried_via p.ds (pairs_of s p.n) p.ds p.angles L.diagonals_listed ∙ own) in
      rw (L.corners, ds, angles)

  pub lists_held : read_sheet s ≡ held p
  lists_held = form_held lists_form ∙ ap held lists_part

-- what is read is listed
read_lists : (s : List ℕ) (p : Polygon) → read_sheet s ≡ held p → Lists s p
read_lists s p e = let W = held_form s p e in rw W.1 (form_lists W.0)

-- the angles of what is read are those listed with its diagonals, and bit 3 stands exactly if there are any
pub read_angles : (s : List ℕ) (p : Polygon) → read_sheet s ≡ held p → p.angles ≡ carried (pairs_of s p.n) (listed_angles s p.n) p.ds
read_angles s p e = let W = held_form s p e in rw W.1

angled_carried : (es ds : List Edge) (xs : Angles) → angled (carried es xs ds) ≡ angled xs
unfolding carried
angled_carried es ds none = refl
angled_carried es ds (each vs) = refl

angled_if : (b : ℕ) (vs : List Angle) → b < 2 → angled (angles_if b vs) ≡ b
angled_if zero vs h = refl
angled_if (suc zero) vs h = refl
angled_if (suc (suc b)) vs h = absurd (omega arith)

pub read_bit : (s : List ℕ) (p : Polygon) → read_sheet s ≡ held p → bit3 (get_or s 0 0) ≡ angled p.angles
read_bit s p e = sym (ap angled (read_angles s p e) ∙ (angled_carried (pairs_of s p.n) p.ds (listed_angles s p.n) ∙ angled_if (bit3 (get_or s 0 0)) _ (omega arith)))

-- A sheet is accepted exactly if, in the published form, it lists the diagonals of a valid part, in any order, either corner first, each with its angle if the part has angles.
pub accepts : (s : List ℕ) (p : Polygon) → (read_sheet s ≡ held p) ↔ (Valid p × Lists s p)
accepts s p = (λ e. (read_valid s p e, read_lists s p e), λ h. lists_held h.0 h.1)

-- Two accepted sheets with the same set of pairs, each lower corner first, of which the second lists with each pair the angle that the first lists with it, hold the same part
-- (the corner counts are then the same too), and so have the same normal sheet.
module _ (s t : List ℕ) (p q : Polygon) (d : read_sheet s ≡ held p) (e : read_sheet t ≡ held q)
    (f : Sub (pairs_of s p.n) (pairs_of t q.n)) (g : Sub (pairs_of t q.n) (pairs_of s p.n))
    (h : listed_angles t q.n ≡ carried (pairs_of s p.n) (listed_angles s p.n) (pairs_of t q.n)) where
  pub same_part : p ≡ q
  same_part =
      let P = read_triangulated s p d in
      let Q = read_triangulated t q e in
      let L = read_lists s p d in
      let M = read_lists t q e in
      let ds = same_set _ _ _ _ P Q (λ x m. M.listed_diagonals x (f x (L.diagonals_listed x m))) (λ x m. L.listed_diagonals x (g x (M.diagonals_listed x m))) in
      let n : p.n ≡ q.n = omega (arith, ap length ds, P.full, Q.full) in
      let via = carried_via (pairs_of s p.n) (pairs_of t q.n) q.ds (listed_angles s p.n) M.diagonals_listed in
      let angles : p.angles ≡ q.angles = read_angles s p d ∙ (ap (carried (pairs_of s p.n) (listed_angles s p.n)) ds ∙ (sym via ∙ (ap (λ (xs : Angles). carried (pairs_of t q.n) xs q.ds) (sym h) ∙ sym (read_angles t q e)))) in
      λ i. record { n = n i; ds = ds i; angles = angles i }

  pub same_normal : normal_sheet p ≡ normal_sheet q
  same_normal = ap normal_sheet same_part
