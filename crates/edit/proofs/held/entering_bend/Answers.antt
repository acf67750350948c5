-- By the test.
use mathlib.Core.Path.{ap, sym, ◌∙◌}
use Rattle.polygon.specs.Polygon.{Edge}
use Rattle.keys.specs.Keys.{key_of, flat_bend}
use Rattle.edit.proofs.Adding.{entering_root, entering_side}
use Rattle.edit.proofs.held.entering_bend.Goals as goal

pub returns-then-i-n : goal.returns-then-i-n
returns-then-i-n c = c.bend.ensures ∙ (ap flat_bend c.key.ensures ∙ ap (λ (e : Edge). flat_bend (key_of e)) (sym (entering_root c.args.n c.args.i c.if-i-n.true)))

pub returns : goal.returns
returns c = c.bend-2.ensures ∙ (ap flat_bend c.key-2.ensures ∙ ap (λ (e : Edge). flat_bend (key_of e)) (sym (entering_side c.args.n c.args.i c.if-i-n.false)))
