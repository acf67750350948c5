-- Read, edited, written.
use mathlib.Core.Path.{◌≡◌, ◌∙◌}
use Rattle.std.specs.Prelude.{Ok, Err}
use Rattle.std.proofs.lemmas.Result.{err_from_is_err_and}
use Rattle.codec.specs.Answer.{written}
use Rattle.sheet.specs.Sheet.{Reading, read_sheet, outcome}
use Rattle.sheet.specs.Held.{reading_of}
use Rattle.sheet.proofs.Hand.{read_is}
use Rattle.edit.specs.Rules.{rule}
use Rattle.edit.specs.Calls.{on_held, edited}
use Rattle.edit.specs.Tables.{edit_of}
use Rattle.edit.proofs.edit.Goals.{After-edit_part}
use Rattle.edit.proofs.edit.Goals as goal

-- what the edit gives, of the sheet
after : (c : After-edit_part) → reading_of c.edit_part.result ≡ on_held (read_sheet c.args.sheet.now) (rule (edit_of c.args.e))
unfolding on_held
after c = c.edit_part.ensures ∙ read_is (Ok c.in_ok-part.part) (λ (q : Reading). on_held q (rule (edit_of c.args.e))) c.in_ok-part.ensures.part

pub returns-in_err-part : goal.returns-in_err-part
unfolding edited on_held outcome written
returns-in_err-part c =
    let p = err_from_is_err_and c.from_residual.result c.from_residual.ensures.1 in
    rw (p.1, p.2) (read_is (Err c.in_err-part.field-0.0) (λ (q : Reading). written (outcome (on_held q (rule (edit_of c.args.e)))) c.args.out.now) c.in_err-part.ensures.part)

pub returns-in_err-edited : goal.returns-in_err-edited
unfolding edited outcome written
returns-in_err-edited c =
    let p = err_from_is_err_and c.from_residual-in_err-edited.result c.from_residual-in_err-edited.ensures.1 in
    rw (p.1, p.2) (read_is (Err c.in_err-edited.field-0.0) (λ (q : Reading). written (outcome q) c.args.out.now) (rw c.in_err-edited.was at (after (goal.at.returns-in_err-edited c).After-edit_part)))

pub returns : goal.returns
unfolding edited outcome
returns c =
    c.write_sheet.ensures ∙ read_is (Ok c.in_ok-edited.edited) (λ (q : Reading). written (outcome q) c.args.out.now) (rw c.in_ok-edited.was at (after (goal.at.returns c).After-edit_part))
