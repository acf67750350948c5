-- What a C caller reads from the number that an operation returns is the answer: for every sheet, every list of bytes, every chart, every number handed in and every lent output. The contracts of src/lib.rt say that
-- the number returned is `packed`, `packed_both`, `packed_plan`, `packed_run` or `packed_found` of these answers; include/bend.h takes it apart as specs/Unpacked.antt of the crate codec says.
use Rattle.std.specs.Prelude.{List, ℕ, ◌<◌}
use Rattle.lists.specs.Lists.{All}
use Rattle.codec.specs.Answer.{written}
use Rattle.codec.specs.TwoOutputs.{written_both}
use Rattle.codec.specs.Unpacked.{ReadsBack, BothReadsBack}
use Rattle.sheet.specs.Sheet.{ordered}
use Rattle.edit.specs.Rules.{add_ear, remove_ear, flip}
use Rattle.edit.specs.Calls.{edited}
use Rattle.seam.specs.Join.{joined_sheets}
use Rattle.cut.specs.Cut.{cut_sheet}
use Rattle.edit_list.specs.Result.{result_of, RunReadsBack}
use Rattle.plan.specs.Answer.{planned, PlanReadsBack}
use Rattle.draw.specs.Answer.{drawn}
use Rattle.draw.specs.Label.{labelled}
use Rattle.nearest.specs.declared.Cell.{Cell}
use Rattle.chart_reader.specs.Reader.{chart_read}
use Rattle.chart_reader.specs.Follow.{nearest_bar, FoundReadsBack}

abbrev Bytes : List ℕ → Type 0
Bytes s = All (λ b. b < 256) s

-- the number, the length, the counts, the place and the corner read are those of the answer, and the number returned is one of 64 bits
pub record EveryAnswer : Type 0 where
  pub bend_normalize : (sheet out : List ℕ) → ReadsBack (written (ordered sheet) out)
  pub bend_add_ear : (sheet : List ℕ) (side : ℕ) (out : List ℕ) → ReadsBack (written (edited (add_ear side) sheet) out)
  pub bend_remove_ear : (sheet : List ℕ) (corner : ℕ) (out : List ℕ) → ReadsBack (written (edited (remove_ear corner) sheet) out)
  pub bend_flip : (sheet : List ℕ) (a b : ℕ) (out : List ℕ) → ReadsBack (written (edited (flip a b) sheet) out)
  pub bend_join : (first second : List ℕ) (side : ℕ) (out : List ℕ) → ReadsBack (written (joined_sheets first second side) out)
  pub bend_cut : (sheet : List ℕ) (a b : ℕ) (inner rest : List ℕ) → BothReadsBack (written_both (cut_sheet sheet a b) inner rest)
  pub bend_run_edits : (first list front back numbers : List ℕ) → Bytes list → RunReadsBack (result_of first list front back numbers)
  pub bend_plan : (sheet : List ℕ) → PlanReadsBack (planned sheet)
  pub bend_draw : (sheet out : List ℕ) → ReadsBack (written (drawn sheet) out)
  pub bend_draw_label : (sheet out : List ℕ) → ReadsBack (written (labelled sheet) out)
  pub bend_read_chart : (chart out : List ℕ) → ReadsBack (written (chart_read chart) out)
  pub bend_nearest_bar : (chart : List ℕ) (e : Cell × Cell) → FoundReadsBack (nearest_bar chart e)
