-- Read, then written.
use mathlib.Core.Path.{◌∙◌}
use Rattle.std.specs.Prelude.{Ok, Err}
use Rattle.std.proofs.lemmas.Result.{err_from_is_err_and}
use Rattle.codec.specs.Answer.{written}
use Rattle.sheet.specs.Sheet.{Reading, outcome, ordered}
use Rattle.sheet.proofs.Hand.{read_is}
use Rattle.sheet_writer.proofs.normalize.Goals as goal

pub returns-in_err-part : goal.returns-in_err-part
unfolding ordered outcome written
returns-in_err-part c =
    let p = err_from_is_err_and c.from_residual.result c.from_residual.ensures.1 in
    rw (p.1, p.2) (read_is (Err c.in_err-part.field-0.0) (λ (q : Reading). written (outcome q) c.args.out.now) c.in_err-part.ensures.part)

pub returns : goal.returns
unfolding ordered outcome
returns c = c.write_sheet.ensures ∙ read_is (Ok c.in_ok-part.part) (λ (q : Reading). written (outcome q) c.args.out.now) c.in_ok-part.ensures.part
