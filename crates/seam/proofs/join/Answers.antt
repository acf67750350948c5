-- Both sheets read, the halves joined, and written.
use mathlib.Core.Path.{◌≡◌, ◌∙◌}
use Rattle.std.specs.Prelude.{Ok, Err}
use Rattle.std.proofs.lemmas.Result.{err_from_is_err_and}
use Rattle.polygon.specs.Polygon.{Polygon}
use Rattle.codec.specs.Answer.{written}
use Rattle.sheet.specs.Sheet.{Reading, read_sheet, outcome}
use Rattle.sheet.specs.Held.{reading_of}
use Rattle.sheet.proofs.Hand.{read_is}
use Rattle.edit.specs.Calls.{on_held}
use Rattle.seam.specs.Join.{join_rule, joined_sheets}
use Rattle.seam.proofs.join.Goals.{After-glue}
use Rattle.seam.proofs.join.Goals as goal

-- what joining gives, of the two sheets
after : (c : After-glue) → reading_of c.glue.result ≡ on_held (read_sheet c.args.first.now) (λ (p : Polygon). on_held (read_sheet c.args.second.now) (join_rule c.args.side p))
unfolding on_held
after c = rw (← c.in_ok-one.ensures.part, ← c.in_ok-other.ensures.part) c.glue.ensures

pub returns-in_err-one : goal.returns-in_err-one
unfolding joined_sheets on_held outcome written
returns-in_err-one c =
    let p = err_from_is_err_and c.from_residual.result c.from_residual.ensures.1 in
    rw (p.1, p.2, ← c.in_err-one.ensures.part)

pub returns-in_err-other : goal.returns-in_err-other
unfolding joined_sheets on_held outcome written
returns-in_err-other c =
    let p = err_from_is_err_and c.from_residual-in_err-other.result c.from_residual-in_err-other.ensures.1 in
    rw (p.1, p.2, ← c.in_ok-one.ensures.part, ← c.in_err-other.ensures.part)

pub returns-in_err-joined : goal.returns-in_err-joined
unfolding joined_sheets outcome written
returns-in_err-joined c =
    let p = err_from_is_err_and c.from_residual-in_err-joined.result c.from_residual-in_err-joined.ensures.1 in
    rw (p.1, p.2) (read_is (Err c.in_err-joined.field-0.0) (λ (q : Reading). written (outcome q) c.args.out.now) (rw c.in_err-joined.was at (after (goal.at.returns-in_err-joined c).After-glue)))

pub returns : goal.returns
unfolding joined_sheets outcome
returns c =
    c.write_sheet.ensures ∙ read_is (Ok c.in_ok-joined.joined) (λ (q : Reading). written (outcome q) c.args.out.now) (rw c.in_ok-joined.was at (after (goal.at.returns c).After-glue))
