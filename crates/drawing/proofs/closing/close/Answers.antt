-- By the laws of Marks.antt.
use mathlib.Core.Path.{◌∙◌}
use native.Mathlib.Omega.{arith}
use Rattle.lists.proofs.Lists.{all_imp}
use Rattle.drawing.proofs.Marks.{total_small, numbered, numbers_small, renumbered}
use Rattle.drawing.proofs.closing.close.Goals as goal

pub mark-requires-clause-inside : goal.mark-requires-clause-inside
mark-requires-clause-inside c = all_imp (λ r h. omega (arith, c.requires.few)) c.requires.inside

pub sums-requires : goal.sums-requires
sums-requires c =
    omega (arith, total_small c.args.rows.now c.mark.new.marks c.mark.ensures, c.mark.auto)

pub renumber-requires-clause-inside : goal.renumber-requires-clause-inside
renumber-requires-clause-inside c = all_imp (λ r h. omega (arith, c.requires.few, c.sums.auto, c.mark.auto)) c.requires.inside

pub renumber-requires-clause-small : goal.renumber-requires-clause-small
renumber-requires-clause-small c = all_imp (λ r h. omega (arith, c.mark.auto)) (numbers_small c.args.rows.now c.mark.new.marks c.mark.ensures c.sums.new.counts c.sums.auto.counts c.sums.ensures)

pub returns-clause-rows : goal.returns-clause-rows
returns-clause-rows c =
    c.renumber.ensures
    ∙ renumbered c.args.rows.now c.mark.new.marks c.mark.ensures c.sums.new.counts c.sums.auto.counts c.sums.ensures c.args.height (omega (arith, c.requires.few, c.mark.auto)) c.requires.inside

pub returns-clause-height : goal.returns-clause-height
returns-clause-height c =
    numbered c.args.rows.now c.mark.new.marks c.mark.ensures c.sums.new.counts c.sums.auto.counts c.sums.ensures c.args.height (omega (arith, c.requires.few, c.mark.auto))
