-- The length is known before the first byte is written.
use mathlib.Core.Path.{sym, ◌∙◌}
use native.Mathlib.Omega.{arith}
use Rattle.sheet.specs.Sheet.{normal_sheet}
use Rattle.codec.proofs.Answers.{written_short, written_fits}
use Rattle.sheet_writer.proofs.write_sheet.Goals as goal

pub returns-then-out-size : goal.returns-then-out-size
returns-then-out-size c = sym (written_short (normal_sheet c.args.part.now) c.args.out.now (omega (arith, c.if-out-size.true)))

pub returns : goal.returns
returns c =
    (λ i. record { number = 0; size = c.sheet_size-size.ensures i; bytes = c.put_sheet.ensures i }) ∙ sym (written_fits (normal_sheet c.args.part.now) c.args.out.now (omega (arith, c.if-out-size.false)))
