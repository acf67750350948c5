-- The number of levels stands at the root edge; the rest is counted.
use mathlib.Core.Path.{◌∙◌}
use Rattle.levels.proofs.Storing.{deep_root}
use Rattle.plan.proofs.Answers.{totals_are}
use Rattle.plan.proofs.counts_of.Goals as goal

pub returns : goal.returns
returns c n t F = totals_are t 0 c.values-s.result c.count-t.result (c.values-s.ensures ∙ deep_root F.deep) (c.count-t.ensures _ (record { shows = F.whole.shows; deep = F.deep }))
