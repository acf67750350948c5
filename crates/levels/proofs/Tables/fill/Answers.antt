-- The table of values begins with those of every side, 0.
use Rattle.levels.proofs.Storing.{fresh_leaves}
use Rattle.levels.proofs.Tables.fill.Goals as goal

pub levels-requires-clause-sides : goal.levels-requires-clause-sides
levels-requires-clause-sides c = fresh_leaves _ c.requires.fresh.no_values
