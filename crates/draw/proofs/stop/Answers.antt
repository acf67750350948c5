-- Test by test.
use mathlib.Core.Path.{sym, ◌∙◌}
use native.Mathlib.Decide.{dec_le}
use native.Mathlib.Omega.{arith}
use Rattle.lists.proofs.Lists.{choose_yes, choose_no}
use Rattle.draw.specs.Label.{keeps?}
use Rattle.draw.specs.Charted.{limit_of, stopped}
use Rattle.draw.proofs.stop.Goals as goal

pub returns-then-not-keeps : goal.returns-then-not-keeps
unfolding stopped
returns-then-not-keeps c = let a = c.args in sym (choose_no (keeps? (limit_of a.limit) a.rows) _ (c.keeps.ensures.no c.if-not-keeps.true))

pub returns-then-not-enough : goal.returns-then-not-enough
unfolding stopped
returns-then-not-enough c =
    let a = c.args in
    sym (choose_yes (keeps? (limit_of a.limit) a.rows) _ (c.keeps.ensures.yes c.if-not-keeps.false) ∙ choose_no (dec_le a.n a.room) _ (λ h. omega (arith, h, c.if-not-enough.true)))

pub returns : goal.returns
unfolding stopped
returns c =
    let a = c.args in
    sym (choose_yes (keeps? (limit_of a.limit) a.rows) _ (c.keeps.ensures.yes c.if-not-keeps.false) ∙ choose_yes (dec_le a.n a.room) _ (omega (arith, c.if-not-enough.false)))
