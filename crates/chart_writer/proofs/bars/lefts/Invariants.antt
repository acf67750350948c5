-- The loop's invariant: the columns from j on are stored, the rows and the last columns stay.
use mathlib.Core.Path.{◌≡◌}
use Rattle.chart_writer.specs.Tables.{rows_of, lefts_of, rights_of}
use Rattle.chart_writer.proofs.Extents.{Lefts}
use Rattle.chart_writer.proofs.Placing.{ColumnsPlaced}
use Rattle.chart_writer.proofs.bars.lefts.Given as goal

abbrev pub invariant-loop-j : goal.invariant-loop-j
invariant-loop-j l =
    Lefts l.tree l.columns (lefts_of l.initial.bars) (lefts_of l.bars) l.j
    × (rights_of l.bars ≡ rights_of l.initial.bars) × (rows_of l.bars ≡ rows_of l.initial.bars)
    × ColumnsPlaced l.columns l.stands l.j
