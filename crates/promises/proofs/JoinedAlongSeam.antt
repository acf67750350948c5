-- Request (i) is proved: the theorems of the crate seam, and the demands on the sheet that joining writes.
use mathlib.Core.Path.{ap, sym, ◌∙◌}
use mathlib.Core.List.{List}
use Prim.Native.Nat.{ℕ, suc, ◌+◌, ◌-◌, ◌≤◌, ◌<◌}
use native.Mathlib.Omega.{arith}
use Rattle.polygon.specs.Polygon.{Polygon, Valid}
use Rattle.codec.proofs.Answers.{only_short}
use Rattle.sheet.specs.Sheet.{normal_sheet, outcome, ordered}
use Rattle.sheet.proofs.Valid.{read_valid}
use Rattle.seam.specs.Join.{glue}
use Rattle.seam.proofs.Theorems.{seam_of_both, seam_diagonal, glued_edges_are, glued_valid, glued_tree, seam_piece, glued_levels, glued_back, joined_triangle, first_refused, second_refused, by_9, by_10, joined_writes}
use Rattle.promises.specs.JoinedAlongSeam.{JoinedPart, JoinedAlongSeam}
use Rattle.promises.proofs.DemandTwo.{only_room, our_chart}
use Rattle.promises.proofs.DemandThree.{demand_three}

joined_part : (i : ℕ) (p q : Polygon) → Valid p → Valid q → suc i < p.n → p.n + q.n - 2 ≤ 1024 → JoinedPart i p q
unfolding ordered outcome glue
joined_part i p q P Q below most =
    let g = glue i p q in
    let v = glued_valid i p q P Q below most in
    let r = glued_back i p q P Q below most in
    let both = seam_of_both q.n i Q.least in
    let bounds = glued_levels i p q P Q below in
    record {
      valid = v;
      corners = omega (arith, P.least);
      edges = glued_edges_are i p q P Q below;
      falls_on = both.1 ∙ sym both.0;
      seam_there = both.1;
      seam_diagonal = seam_diagonal i p q;
      tree = glued_tree i p q P Q below;
      piece = seam_piece i p q P Q below;
      reads = r;
      normal = ap outcome r;
      first_least = bounds.0;
      second_least = bounds.1;
      sum_most = bounds.2;
      room = only_room (normal_sheet g) g v r;
      chart = our_chart (normal_sheet g) g v r;
      edits = demand_three (normal_sheet g) g r;
    }

pub joined_along_seam : (s t : List ℕ) (i : ℕ) → JoinedAlongSeam s t i
joined_along_seam s t i = record {
  first_refused = λ k d. first_refused s t i d;
  second_refused = λ p k d e. second_refused s t i d e;
  by_9 = λ p q d e h. by_9 s t i d e h;
  by_10 = λ p q d e h k. by_10 s t i d e h k;
  taken = λ p q d e h k. (joined_writes s t i d e h k, joined_part i p q (read_valid s p d) (read_valid t q e) h k);
  only_8 = λ p q d e h k out. rw (joined_writes s t i d e h k) (only_short (normal_sheet (glue i p q)) out);
  triangle = joined_triangle s t i;
}
