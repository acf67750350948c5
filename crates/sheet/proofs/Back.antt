-- The normal sheet of a valid part lists that part, and reading it gives the part back.
use mathlib.Core.Path.{◌≡◌, refl, ap, sym, ◌∙◌}
use mathlib.Core.List.{List, [], ◌∷◌, ◌++◌}
use Prim.Native.Nat.{ℕ, ◌+◌, ◌*◌, ◌-◌, ◌≤◌}
use native.Mathlib.Omega.{arith}
use lib.ListN.{length, get_or}
use Rattle.lists.specs.Lists.{All}
use Rattle.lists.proofs.Lists.{all_imp}
use Rattle.polygon.specs.Angles.{Angles, none, each, Allowed}
use Rattle.polygon.specs.Polygon.{Polygon, Valid}
use Rattle.polygon.proofs.Angles.{carried_self, allowed_each}
use Rattle.polygon.proofs.Sort.{distinct_of}
use Rattle.codec.specs.Numbers.{bytes16, get16}
use Rattle.sheet.specs.Sheet.{held, bit3, field, angles_at, angles_if, angles, listed_angles, pair_bytes, angle_bytes, angled, map_byte, read_sheet, normal_sheet}
use Rattle.sheet.specs.Listing.{pairs_of, Lists}
use Rattle.sheet.proofs.Fields.{more_stands, length_is, angles_at_lem}
use Rattle.codec.proofs.Numbers.{get16_back}
use Rattle.sheet.proofs.Normal.{pairs_back, pairs_length, angles_back, normal_length_lem, map_byte_lem}
use Rattle.sheet.proofs.Accepts.{lists_held}

-- the block of angles behind the pairs
block : (n : ℕ) (front : List ℕ) (k : ℕ) (xs : Angles) → k + 3 ≡ n → Allowed n xs → angles_if (angled xs) (angles (front ++ angle_bytes xs) (length front) k) ≡ xs
block n front k none e A = refl
block n front k (each vs) e A = let c : k ≡ length vs = omega arith in ap each (rw c (angles_back front vs))

block_back : (p : Polygon) → Valid p → angles_if (angled p.angles) (angles (normal_sheet p) (3 + 4 * length p.ds) (length p.ds)) ≡ p.angles
unfolding normal_sheet
block_back p v =
    let front : List ℕ = map_byte p.n p.angles ∷ (bytes16 p.n ++ pair_bytes p.ds) in
    let size : length front ≡ 3 + 4 * length p.ds = omega (arith, pairs_length p.ds) in
    rw (← size) (block p.n front (length p.ds) p.angles v.triangulated.full v.allowed)

-- the fields of the normal sheet
module _ (p : Polygon) where
  pub normal_map : get_or (normal_sheet p) 0 0 ≡ map_byte p.n p.angles
  unfolding normal_sheet
  normal_map = refl

  pub normal_bit : bit3 (get_or (normal_sheet p) 0 0) ≡ angled p.angles
  normal_bit = rw normal_map (map_byte_lem p.n p.angles).with_angles

  pub normal_count : get16 (normal_sheet p) 1 ≡ p.n
  unfolding normal_sheet
  normal_count = get16_back p.n []

  pub normal_pairs : length p.ds + 3 ≡ p.n → All (λ e. e.0 ≤ e.1) p.ds → pairs_of (normal_sheet p) p.n ≡ p.ds
  unfolding normal_sheet
  normal_pairs full a =
      let k : p.n - 3 ≡ length p.ds = omega arith in
      rw k (pairs_back (map_byte p.n p.angles ∷ bytes16 p.n) p.ds (angle_bytes p.angles) a)

  pub normal_angles : Valid p → listed_angles (normal_sheet p) p.n ≡ p.angles
  normal_angles v =
      let M = map_byte_lem p.n p.angles in
      let at : angles_at (get_or (normal_sheet p) 0 0) p.n ≡ 3 + 4 * length p.ds = rw normal_map (omega (arith, angles_at_lem (map_byte p.n p.angles) p.n, M.bare, v.triangulated.full)) in
      let k : p.n - 3 ≡ length p.ds = omega (arith, v.triangulated.full) in
      rw (at, k, normal_map, M.with_angles) (block_back p v)

-- the normal sheet has the published form
normal_lists : (p : Polygon) → Valid p → Lists (normal_sheet p) p
normal_lists p v =
    let T = v.triangulated in
    let M = map_byte_lem p.n p.angles in
    let pairs = normal_pairs p T.full (all_imp (λ e d. omega (arith, d.forth)) T.diagonals) in
    let size = length_is (map_byte p.n p.angles) p.n M.low v.least M.agrees in
    let own = carried_self p.angles (distinct_of T.ascending) (allowed_each p.n _ p.angles T.full v.allowed) in
    record {
      four_fields = rw (normal_map p) M.small;
      count_stands = rw (normal_map p) M.low;
      corners = normal_count p;
      pairs_stand = rw (normal_map p) (more_stands _ _ M.agrees);
      exact = rw (normal_map p) (omega (arith, normal_length_lem p v, size, angles_at_lem (map_byte p.n p.angles) p.n, M.bare, ap (λ (b : ℕ). field b (2 * (p.n - 3))) M.with_angles));
      once = rw pairs (distinct_of T.ascending);
      diagonals_listed = rw pairs (λ e m. m);
      listed_diagonals = rw pairs (λ e m. m);
      angles_listed = rw pairs (normal_angles p v ∙ sym own);
    }

-- Reading the normal sheet of a valid part gives the part back.
pub read_back : (p : Polygon) → Valid p → read_sheet (normal_sheet p) ≡ held p
read_back p v = lists_held v (normal_lists p v)
