-- Read, then planned.
use mathlib.Core.Path.{ap, ◌∙◌}
use Rattle.std.proofs.lemmas.Result.{err_from_is_err_and}
use Rattle.std.specs.Prelude.{Ok, Err}
use Rattle.sheet.proofs.Hand.{read_is}
use Rattle.plan.specs.declared.Totals.{Totals}
use Rattle.plan.specs.Answer.{answer, planned, planned_of}
use Rattle.plan.proofs.plan.Goals as goal

pub returns-in_err-part : goal.returns-in_err-part
unfolding planned answer
returns-in_err-part c =
    let p = err_from_is_err_and c.from_residual.result c.from_residual.ensures.1 in
    rw (p.1, p.2) (read_is (Err c.in_err-part.field-0.0) answer c.in_err-part.ensures.part)

pub returns : goal.returns
unfolding planned answer
returns c = ap (λ (x : Totals). planned_of (Ok x)) c.counts_by.ensures ∙ read_is (Ok c.in_ok-part.part) answer c.in_ok-part.ensures.part
