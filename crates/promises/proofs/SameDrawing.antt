-- The corners and the diagonals that are read of a sheet settle what is planned, drawn and printed.
use mathlib.Core.Path.{◌≡◌, ap, sym, ◌∙◌}
use mathlib.Core.List.{List}
use mathlib.Core.Option.{Option}
use Prim.Native.Nat.{ℕ}
use Rattle.codec.specs.TwoOutputs.{BothOutcome, written_both}
use Rattle.sheet.specs.Sheet.{Reading, read_sheet}
use Rattle.sheet.proofs.Hand.{bared}
use Rattle.plan.specs.Answer.{answer, planned}
use Rattle.plan.proofs.Bare.{answer_bare}
use Rattle.draw.specs.Answer.{drawn, drawn_with_bars}
use Rattle.draw.specs.Label.{tape, label, charted_within, charted_both_within, labelled, labelled_with_bars}
use Rattle.chart.specs.Chart.{Bar}
use Rattle.draw.specs.Printed.{printed_of, printed}
use Rattle.draw.specs.Program.{output, output_of}
use Rattle.draw.proofs.Label.{tape_charted, tape_both}
use Rattle.draw.proofs.Bare.{charted_bare, both_bare, printed_bare, output_bare}
use Rattle.promises.specs.SameDrawing.{SameDrawing}

-- with any limit of rows
within_alike : (limit : Option ℕ) (r u : Reading) → bared r ≡ bared u → (charted_within limit r ≡ charted_within limit u) × (charted_both_within limit r ≡ charted_both_within limit u)
within_alike limit r u b = (
  sym (charted_bare limit r) ∙ (ap (charted_within limit) b ∙ charted_bare limit u),
  sym (both_bare limit r) ∙ (ap (charted_both_within limit) b ∙ both_bare limit u),
)

pub drawn_alike : (s t : List ℕ) → bared (read_sheet s) ≡ bared (read_sheet t) → SameDrawing s t
unfolding planned drawn drawn_with_bars labelled labelled_with_bars printed output
drawn_alike s t b =
    let r : Reading = read_sheet s in
    let u : Reading = read_sheet t in
    let (on_tape, both-on-tape) = within_alike tape r u b in
    let (on-label, both-on-label) = within_alike label r u b in
    record {
      plan = sym (answer_bare r) ∙ (ap answer b ∙ answer_bare u);
      draw = sym (tape_charted r) ∙ (on_tape ∙ tape_charted u);
      draw_bars = λ out bars. ap (λ (o : BothOutcome Bar). written_both o out bars) (sym (tape_both r) ∙ (both-on-tape ∙ tape_both u));
      label = on-label;
      label_bars = λ out bars. ap (λ (o : BothOutcome Bar). written_both o out bars) both-on-label;
      log = sym (printed_bare r) ∙ (ap printed_of b ∙ printed_bare u);
      program = λ chart text. sym (output_bare r chart text) ∙ (ap (λ (x : Reading). output_of x chart text) b ∙ output_bare u chart text);
    }
