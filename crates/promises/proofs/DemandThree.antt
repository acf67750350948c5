-- Demand 3 is proved: the list theorem of the crate edit, with the plan's and the chart's theorems on the part that the list leaves.
use mathlib.Core.Path.{◌≡◌, ap, sym, ◌∙◌}
use mathlib.Core.List.{List}
use Prim.Native.Nat.{ℕ}
use lib.ListN.{length, take}
use lib.Seq.{take-append_seam, take_at}
use Rattle.polygon.specs.Polygon.{Polygon}
use Rattle.polygon.specs.Tree.{tree_of}
use Rattle.polygon.proofs.Theorems.{same_diagonals}
use Rattle.codec.specs.Answer.{Answer, whole, written}
use Rattle.codec.specs.TwoOutputs.{BothAnswer, whole_both}
use Rattle.codec.proofs.Answers.{written_done, only_short}
use Rattle.codec.proofs.TwoOutputs.{both_done}
use Rattle.sheet.specs.Sheet.{held, read_sheet}
use Rattle.edit.specs.Calls.{Call, sheet_left}
use Rattle.edit.proofs.List.{list_of_edits}
use Rattle.umbrella.specs.Best.{best}
use Rattle.umbrella.proofs.Theorems.{none_has_fewer, is_drawn, only_drawn}
use Rattle.plan.specs.Answer.{answer, planned}
use Rattle.chart.specs.Chart.{Bar, Chart, bars_of, chart, closed, chart_of}
use Rattle.chart.specs.Bytes.{bytes_of}
use Rattle.chart.proofs.Sizes.{bars_count}
use Rattle.chart.proofs.Theorems.{chart_is_true, chart_shows, chart_rows_most, chart_rows_least, chart_no_empty_row, chart_columns, chart_column_named, chart_number_fits}
use Rattle.draw.specs.Answer.{charted, drawn, charted_both, drawn_with_bars}
use Rattle.draw.proofs.Refusals.{only_short_bars}
use Rattle.promises.specs.DemandThree.{DemandThree, SamePart, SameBytes, SameChart, part_left}

pub demand_three : (s : List ℕ) (p : Polygon) → read_sheet s ≡ held p → (cs : List Call) → DemandThree s p cs
unfolding planned answer drawn charted drawn_with_bars charted_both
demand_three s p reads cs =
    let F = list_of_edits s p reads cs in
    let q : Polygon = part_left p cs in
    let S = chart_shows q F.valid in
    record {
      same_numbers = F.same_numbers;
      same_sheet = F.same_sheet;
      reads = F.reads;
      valid = F.valid;
      plan = rw F.reads;
      plan_drawn = is_drawn _;
      plan_only = λ r e. only_drawn r e;
      least = λ r. none_has_fewer r;
      drawing = rw F.reads;
      only_8 = λ out. rw F.reads (only_short (bytes_of (chart_of q)) out);
      drawing_bars = λ out bars. rw F.reads;
      only_8_bars = λ out bars. rw F.reads (only_short_bars (chart_of q) q.n S.corners out bars);
      true = chart_is_true q F.valid;
      shows = S;
      fits = chart_number_fits q F.valid;
      rows = chart_rows_most q F.valid;
      rows_least = chart_rows_least q F.valid;
      no_empty_row = chart_no_empty_row q F.valid;
      columns = chart_columns q F.valid;
      named = chart_column_named q F.valid;
    }

-- two whole answers of the same bytes
same_bytes : (c d : Chart) (out out' : List ℕ) (a b : Answer) → c ≡ d → a ≡ whole (bytes_of c) out → b ≡ whole (bytes_of d) out' → SameBytes a b
same_bytes c d out out' a b e x y =
    rw (x, y) (ap (λ (c : Chart). length (bytes_of c)) e, take-append_seam (bytes_of c) _ ∙ (ap bytes_of e ∙ sym (take-append_seam (bytes_of d) _)))

-- the bars of a whole drawing
whole_bars : (c : Chart) (n : ℕ) (out : List ℕ) (bars : List Bar) (d : BothAnswer Bar) → c.n ≡ n → d ≡ whole_both (bytes_of c) (bars_of c) out bars → take n d.second ≡ bars_of c
whole_bars c n out bars d h e = rw e (take_at (bars_of c) _ n (bars_count c ∙ h))

-- the chart depends on the corners and the set of diagonals alone
chart_of_same : (x y : Polygon) → x.n ≡ y.n → x.ds ≡ y.ds → chart_of x ≡ chart_of y
unfolding chart_of
chart_of_same x y n e = λ i. closed (chart (best (tree_of (n i) (e i))))

pub same_chart : (s t : List ℕ) (p q : Polygon) → read_sheet s ≡ held p → read_sheet t ≡ held q → (cs ds : List Call) → SameChart s t p q cs ds
same_chart s t p q rs rt cs ds =
    let A : DemandThree s p cs = demand_three s p rs cs in
    let B : DemandThree t q ds = demand_three t q rt ds in
    let x : Polygon = part_left p cs in
    let y : Polygon = part_left q ds in
    let same : SamePart x y → chart_of x ≡ chart_of y = λ S. chart_of_same x y S.corners (same_diagonals x y A.valid B.valid S.there S.back).1 in
    record {
      equal = λ S out out' h k.
          same_bytes (chart_of x) (chart_of y) out out' _ _ (same S)
          (ap (λ o. written o out) A.drawing ∙ written_done _ out (rw A.drawing at h))
          (ap (λ o. written o out') B.drawing ∙ written_done _ out' (rw B.drawing at k));
      equal_bars = λ S out out' bars bars' h k.
          let a : drawn_with_bars (sheet_left s cs) out bars ≡ whole_both (bytes_of (chart_of x)) (bars_of (chart_of x)) out bars =
          A.drawing_bars out bars ∙ both_done _ out _ bars (rw (A.drawing_bars out bars) at h) in
          let b : drawn_with_bars (sheet_left t ds) out' bars' ≡ whole_both (bytes_of (chart_of y)) (bars_of (chart_of y)) out' bars' =
          B.drawing_bars out' bars' ∙ both_done _ out' _ bars' (rw (B.drawing_bars out' bars') at k) in (
            same_bytes (chart_of x) (chart_of y) out out' _ _ (same S) (ap (λ d. d.answer) a) (ap (λ d. d.answer) b),
            whole_bars (chart_of x) x.n out bars _ A.shows.corners a ∙ (ap bars_of (same S) ∙ sym (whole_bars (chart_of y) y.n out' bars' _ B.shows.corners b)),
          );
    }
