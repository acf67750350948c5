-- Request (xi) of a cut part: "Cut halves keep theirs". Each diagonal of a half has the angle that it had in the whole, and a half has angles exactly if the whole has and its own n is over 3.
use mathlib.Core.Path.{◌≡◌, refl, ap, sym, ◌∙◌}
use mathlib.Core.Logic.{◌↔◌}
use mathlib.Core.List.{List, map}
use Prim.Native.Nat.{ℕ, ◌<◌}
use native.Mathlib.Decide.{dec_lt}
use native.Mathlib.Omega.{arith}
use lib.ListN.{length}
use Rattle.lists.specs.Lists.{Mem, choose}
use Rattle.lists.proofs.Lists.{choose_yes, mem_map, mem_unmap}
use Rattle.polygon.specs.Angles.{Angles, none, each}
use Rattle.polygon.specs.Polygon.{Edge, Polygon, Valid}
use Rattle.polygon.specs.Carried.{carried, angle_from, angle_at}
use Rattle.polygon.proofs.Angles.{OneEach, allowed_each, angle_carried, angle_moved, carried_self}
use Rattle.polygon.proofs.Sort.{distinct_of}
use Rattle.sheet.specs.Sheet.{angled}
use Rattle.edit.specs.Rules.{both}
use Rattle.edit.proofs.Flipped.{over_three}
use Rattle.seam.specs.Join.{laid, matched}
use Rattle.cut.specs.Cut.{inner_corner, rest_corner, part_on, inner_part, rest_part}
use Rattle.cut.proofs.Corners.{Undoes, both_back, laid_back}
use Rattle.cut.proofs.Valid.{inner_valid, rest_valid, inner_list, rest_list, rest_back}

-- a part's angles, if it has any, are those of its diagonals
pub own_angles : (g : Polygon) → Valid g → angled g.angles ≡ 1 → g.angles ≡ each (map (angle_at g) g.ds)
unfolding carried
own_angles g G h = go g.angles h (allowed_each g.n (length g.ds) g.angles G.triangulated.full G.allowed)
  where
    go : (xs : Angles) → angled xs ≡ 1 → OneEach (length g.ds) xs → xs ≡ each (map (angle_from g.ds xs) g.ds)
    go none e o = absurd (omega arith)
    go (each vs) e o = sym (carried_self (each vs) (distinct_of G.triangulated.ascending) o)

pub unangled : (xs : Angles) → ¬ (angled xs ≡ 1) → xs ≡ none
unangled none f = refl
unangled (each vs) f = absurd (f refl)

-- a part on the diagonals es of p, which have their old numbers by g again
part_angle : (n : ℕ) (f g : ℕ → ℕ) → Undoes f g → (es : List Edge) (p : Polygon) → es ≡ map (both g) (map (both f) es) → 3 < n
    → (d : Edge) → Mem d (map (both f) es) → angle_at (part_on n f es p) d ≡ angle_at p (both g d)
unfolding part_on
part_angle n f g U es p listed over d m =
    let back = both_back f g U in
    let own : (x : Edge) → Mem x es → both f x ≡ both f (both g d) → x ≡ both g d =
    λ x k e. (let (y, l, q) = mem_unmap (both g) (map (both f) es) (rw listed at k) in q ∙ ap (both g) (sym (back y) ∙ (ap (both f) (sym q) ∙ (e ∙ back d)))) in
    ap (λ (xs : Angles). angle_from (map (both f) es) xs d) (choose_yes (dec_lt 3 n) none over)
    ∙ (ap (angle_from (map (both f) es) (carried p.ds p.angles es)) (sym (back d))
    ∙ (angle_moved (both f) es (carried p.ds p.angles es) (both g d) own
    ∙ angle_carried p.ds es p.angles (both g d) (rw (sym listed) at (mem_map (both g) m))))

part_angled : (n : ℕ) (f : ℕ → ℕ) (es : List Edge) (p : Polygon) → (angled (part_on n f es p).angles ≡ 1) ↔ ((angled p.angles ≡ 1) × (3 < n))
unfolding part_on choose carried
part_angled n f es p = go (dec_lt 3 n) p.angles
  where
    go : (d : Dec (3 < n)) (xs : Angles) → (angled (choose d (carried p.ds xs es) none) ≡ 1) ↔ ((angled xs ≡ 1) × (3 < n))
    go (yes h) none = (λ e. absurd (omega arith), λ k. absurd (omega arith))
    go (yes h) (each vs) = (λ e. (refl, h), λ k. refl)
    go (no h) xs = (λ e. absurd (omega arith), λ k. absurd (h k.1))

pub inner_angled : (c : Edge) (p : Polygon) → (angled (inner_part c p).angles ≡ 1) ↔ ((angled p.angles ≡ 1) × (3 < (inner_part c p).n))
unfolding inner_part part_on
inner_angled c p = part_angled _ (inner_corner c.0) _ p

pub rest_angled : (c : Edge) (p : Polygon) → (angled (rest_part c p).angles ≡ 1) ↔ ((angled p.angles ≡ 1) × (3 < (rest_part c p).n))
unfolding rest_part part_on
rest_angled c p = part_angled _ (rest_corner c) _ p

module _ (c : Edge) (p : Polygon) (P : Valid p) (m : Mem c p.ds) where
  pub inner_angles : (d : Edge) → Mem d (inner_part c p).ds → angle_at (inner_part c p) d ≡ angle_at p (both (laid c.0) d)
  unfolding inner_part part_on
  inner_angles d k =
      part_angle _ (inner_corner c.0) (laid c.0) (laid_back c.0) _ p (inner_list c p P m) (over_three _ (inner_valid c p P m).triangulated k) d k

  pub rest_angles : (d : Edge) → Mem d (rest_part c p).ds → angle_at (rest_part c p) d ≡ angle_at p (both (matched (inner_part c p).n c.0) d)
  unfolding rest_part part_on
  rest_angles d k =
      part_angle _ (rest_corner c) (matched (inner_part c p).n c.0) (rest_back c p P m) _ p (rest_list c p P m) (over_three _ (rest_valid c p P m).triangulated k) d k
