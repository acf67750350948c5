-- The theorem of this crate: every answer is read back from the number that a C caller is given. To be read with specs/ReadBack.antt.
use mathlib.Core.List.{List}
use Prim.Native.Nat.{ℕ}
use native.Mathlib.Omega.{arith}
use Rattle.codec.specs.Answer.{written}
use Rattle.codec.specs.Unpacked.{ReadsBack}
use Rattle.codec.proofs.Answers.{reads_back}
use Rattle.sheet.proofs.Refusals.{ordered_settled}
use Rattle.codec.proofs.Refusals.{small_number, small_both}
use Rattle.codec.proofs.TwoOutputs.{reads_back_both}
use Rattle.sheet.proofs.Size.{ordered_size}
use Rattle.edit.specs.Rules.{Edit, add_ear, remove_ear, flip}
use Rattle.edit.specs.Calls.{edited}
use Rattle.edit.proofs.Refusals.{edited_settled}
use Rattle.edit.proofs.Size.{edited_size}
use Rattle.seam.proofs.Answers.{joined_settled, joined_size}
use Rattle.cut.proofs.Answers.{cut_settled, cut_sizes}
use Rattle.edit_list.proofs.Packing.{run_reads_back}
use Rattle.plan.proofs.ReadBack.{plan_reads_back}
use Rattle.draw.proofs.Refusals.{drawn_settled, labelled_settled}
use Rattle.draw.proofs.Size.{drawn_size, labelled_size}
use Rattle.chart_reader.proofs.Refusals.{chart_settled}
use Rattle.chart_reader.proofs.Size.{chart_read_size}
use Rattle.chart_reader.proofs.Following.{found_reads_back}
use Rattle.bend_c.specs.ReadBack.{EveryAnswer}

edit_reads_back : (e : Edit) (s out : List ℕ) → ReadsBack (written (edited e s) out)
edit_reads_back e s out = reads_back _ (small_number (edited_settled e s out)) (omega (arith, edited_size e s out))

pub every_answer : EveryAnswer
every_answer = record {
  bend_normalize = λ s out. reads_back _ (small_number (ordered_settled s out)) (omega (arith, ordered_size s out));
  bend_add_ear = λ s side out. edit_reads_back (add_ear side) s out;
  bend_remove_ear = λ s corner out. edit_reads_back (remove_ear corner) s out;
  bend_flip = λ s a b out. edit_reads_back (flip a b) s out;
  bend_join = λ s t side out. reads_back _ (small_number (joined_settled s t side out)) (omega (arith, joined_size s t side out));
  bend_cut = λ s a b inner rest. (let (k, m) = cut_sizes s a b inner rest in reads_back_both _ (small_both (cut_settled s a b inner rest)) (omega arith) (omega arith));
  bend_run_edits = run_reads_back;
  bend_plan = plan_reads_back;
  bend_draw = λ s out. reads_back _ (small_number (drawn_settled s out)) (omega (arith, drawn_size s out));
  bend_draw_label = λ s out. reads_back _ (small_number (labelled_settled s out)) (omega (arith, labelled_size s out));
  bend_read_chart = λ s out. reads_back _ (small_number (chart_settled s out)) (omega (arith, chart_read_size s out));
  bend_nearest_bar = found_reads_back;
}
