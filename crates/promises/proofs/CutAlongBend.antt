-- Request (iii) is proved: the theorems of the crate cut, and the demands on the sheets that cutting writes.
use mathlib.Core.Path.{◌≡◌, ap}
use mathlib.Core.List.{List}
use Prim.Native.Nat.{ℕ, ◌≤◌}
use Rattle.lists.specs.Lists.{Mem}
use Rattle.polygon.specs.Polygon.{Edge, Polygon, Valid}
use Rattle.polygon.specs.Order.{lower_first}
use Rattle.codec.proofs.TwoOutputs.{only_short_both}
use Rattle.sheet.specs.Sheet.{held, read_sheet, normal_sheet, outcome, ordered}
use Rattle.sheet.proofs.Valid.{read_valid}
use Rattle.cut.specs.Cut.{inner_part, rest_part}
use Rattle.cut.proofs.Theorems as cut
use Rattle.umbrella.specs.Plan.{levels}
use Rattle.umbrella.specs.Best.{plan_of}
use Rattle.promises.specs.CutAlongBend.{CutHalf, CutParts, CutAlongBend}
use Rattle.promises.proofs.DemandTwo.{only_room, our_chart}
use Rattle.promises.proofs.DemandThree.{demand_three}

cut_half : (p q : Polygon) → Valid q → read_sheet (normal_sheet q) ≡ held q → levels (plan_of q) ≤ levels (plan_of p) → CutHalf p q
unfolding ordered outcome
cut_half p q v r h = record {
  valid = v;
  reads = r;
  normal = ap outcome r;
  levels_most = h;
  room = only_room (normal_sheet q) q v r;
  chart = our_chart (normal_sheet q) q v r;
  edits = demand_three (normal_sheet q) q r;
}

cut_parts : (c : Edge) (p : Polygon) → Valid p → Mem c p.ds → CutParts c p
cut_parts c p P m =
    let (inner-most, rest-most) = cut.halves_levels c p P m in
    record {
      inner = cut_half p (inner_part c p) (cut.inner_valid c p P m) (cut.inner_reads c p P m) inner-most;
      rest = cut_half p (rest_part c p) (cut.rest_valid c p P m) (cut.rest_reads c p P m) rest-most;
      inner_corners = cut.inner_corners c p P m;
      rest_corners = cut.halves_corners c p P m;
      edges = cut.whole_edges_are c p P m;
      root = cut.cut_is_seam c p P m;
      side = cut.rest_side c p P m;
      trees = cut.halves_trees c p P m;
      again = cut.sheets_joined_again c p P m;
      bare_again = cut.bare_rejoined c p P m;
    }

pub cut_along_bend : (s : List ℕ) (a b : ℕ) → CutAlongBend s a b
cut_along_bend s a b =
    let c = lower_first (a, b) in
    record {
      as_turning = cut.refused_as_turning s a b;
      sheet_refused = λ k e. cut.sheet_refused s a b e;
      by_9 = λ p e h. cut.by_9 s a b e h;
      by_13 = λ p e h k f. cut.by_13 s a b e h k f;
      either_order = cut.either_named s a b;
      taken = λ p e m. (cut.cut_writes s a b e m, cut_parts c p (read_valid s p e) m);
      only_8 = λ p e m inner rest. rw (cut.cut_writes s a b e m) (only_short_both (normal_sheet (inner_part c p)) inner (normal_sheet (rest_part c p)) rest);
      joined_cut = λ t i p q d e h k. cut.sheet_seam_cut i p q (read_valid s p d) (read_valid t q e) h k;
    }
