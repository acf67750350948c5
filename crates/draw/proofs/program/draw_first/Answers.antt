-- By what was read of the sheet.
use mathlib.Core.Path.{◌∙◌}
use Rattle.std.specs.Prelude.{Ok, Err}
use native.Mathlib.Omega.{arith}
use Rattle.sheet.specs.Sheet.{Reading}
use Rattle.sheet.proofs.Hand.{read_is}
use Rattle.log_line.proofs.Size.{refused_size}
use Rattle.draw.specs.Program.{output_of, output}
use Rattle.draw.proofs.Inputs.{refusal_shown}
use Rattle.draw.proofs.program.draw_first.Goals as goal

pub returns-in-Ok-clause-done : goal.returns-in-Ok-clause-done
unfolding output
returns-in-Ok-clause-done c =
    c.show_part.ensures.done ∙ read_is (Ok c.in-Ok.part) (λ (q : Reading). output_of q c.args.chart.now c.args.text.now) c.in-Ok.ensures.part

pub returns-in-Err-clause-done : goal.returns-in-Err-clause-done
unfolding output
returns-in-Err-clause-done c =
    refusal_shown _ _ c.requires.1 (rw (c.from.ensures ∙ c.number.ensures.number) at c.put_refused.ensures) ∙ read_is (Err c.in-Err.why) (λ (q : Reading). output_of q c.args.chart.now c.args.text.now) c.in-Err.ensures.part

pub returns-in-Err-clause-within : goal.returns-in-Err-clause-within
returns-in-Err-clause-within c = omega (arith, c.put_refused.ensures.end, refused_size c.from.result, c.put_refused.auto.out, c.requires.1)
