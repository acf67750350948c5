-- Read, cut, written.
use mathlib.Core.Path.{◌∙◌}
use Rattle.std.specs.Prelude.{Ok, Err}
use Prim.Native.Nat.{ℕ}
use Rattle.std.proofs.lemmas.Result.{err_from_is_err_and}
use Rattle.polygon.specs.Order.{lower_first}
use Rattle.codec.specs.TwoOutputs.{BothAnswer, written_both}
use Rattle.sheet.specs.Sheet.{Reading}
use Rattle.sheet.proofs.Hand.{read_is}
use Rattle.edit.specs.Calls.{on_held}
use Rattle.cut.specs.Cut.{cuttable, halved, cut_sheet}
use Rattle.cut.proofs.cut.Goals.{Start}
use Rattle.cut.proofs.cut.Goals as goal

-- what is answered, by what is read
abbrev answer : Start → Reading → BothAnswer ℕ
answer c q = written_both (halved (lower_first (c.args.a, c.args.b)) (on_held q (cuttable c.args.a c.args.b))) c.args.inner.now c.args.rest.now

pub returns-in_err-part : goal.returns-in_err-part
unfolding cut_sheet on_held halved written_both
returns-in_err-part c =
    let p = err_from_is_err_and c.from_residual.result c.from_residual.ensures.1 in
    rw (p.1, p.2) (read_is (Err c.in_err-part.field-0.0) (answer (goal.at.returns-in_err-part c).Start) c.in_err-part.ensures.part)

pub returns : goal.returns
unfolding cut_sheet on_held
returns c = c.cut_part.ensures ∙ read_is (Ok c.in_ok-part.part) (answer (goal.at.returns c).Start) c.in_ok-part.ensures.part
