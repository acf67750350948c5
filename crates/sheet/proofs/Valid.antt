-- What is read is a valid part.
use mathlib.Core.Path.{◌≡◌}
use mathlib.Core.List.{List}
use Prim.Native.Nat.{ℕ, ◌-◌}
use native.Mathlib.Omega.{arith}
use Rattle.lists.proofs.Lists.{all_imp}
use Rattle.polygon.specs.Angles.{Allowed}
use Rattle.polygon.specs.Polygon.{Polygon, Triangulated, Valid}
use Rattle.polygon.specs.Order.{sort}
use Rattle.polygon.proofs.Angles.{carried_allowed}
use Rattle.polygon.proofs.Sort.{sort_all, sort_length, sort_ascends}
use Rattle.codec.specs.Numbers.{get16}
use Rattle.sheet.specs.Sheet.{held, read_sheet}
use Rattle.sheet.proofs.Asks.{edges_in, angles_of, part_in, Form, held_form}
use Rattle.sheet.proofs.Normal.{pairs_count}

-- the pairs of an accepted sheet, in order, triangulate its corners
form_triangulates : {s : List ℕ} → Form s → Triangulated (get16 s 1) (sort (edges_in s))
form_triangulates {s} W = record {
  ascending = (sort_ascends (edges_in s)).1 W.paired.distinct;
  diagonals = sort_all W.paired.diagonals;
  none_cross = sort_all (all_imp (λ e a. sort_all a) W.paired.none_cross);
  full = omega (arith, sort_length (edges_in s), pairs_count s 3 (get16 s 1 - 3), W.paired.framed.least);
}

-- and its angles, in that order, are allowed
form_allowed : {s : List ℕ} → Form s → Allowed (part_in s).n (part_in s).angles
form_allowed {s} W = carried_allowed _ _ (edges_in s) (sort (edges_in s)) (angles_of s) (λ h. h) (form_triangulates W).full W.allowed

pub read_triangulated : (s : List ℕ) (p : Polygon) → read_sheet s ≡ held p → Triangulated p.n p.ds
read_triangulated s p e = let W = held_form s p e in rw W.1 (form_triangulates W.0)

-- A sheet that is not refused holds a valid part.
pub read_valid : (s : List ℕ) (p : Polygon) → read_sheet s ≡ held p → Valid p
read_valid s p e =
    let W = held_form s p e in
    rw W.1 (record { least = W.0.paired.framed.least; most = W.0.paired.framed.most; triangulated = form_triangulates W.0; allowed = form_allowed W.0 })
