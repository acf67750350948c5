-- The loop's invariant: the first j columns are stored, the rows and the first columns stay.
use mathlib.Core.Path.{◌≡◌}
use Rattle.chart_writer.specs.Tables.{rows_of, lefts_of, rights_of}
use Rattle.chart_writer.proofs.Extents.{Rights}
use Rattle.chart_writer.proofs.bars.rights.Given as goal

abbrev pub invariant-loop-j : goal.invariant-loop-j
invariant-loop-j l =
    Rights l.tree l.columns (rights_of l.initial.bars) (rights_of l.bars) l.j
    × (lefts_of l.bars ≡ lefts_of l.initial.bars) × (rows_of l.bars ≡ rows_of l.initial.bars)
