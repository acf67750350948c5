-- The loop's invariant: the bars of the corners before x are stored.
use mathlib.Core.Path.{◌≡◌}
use lib.Seq.{sets}
use Rattle.chart_writer.specs.Tables.{bar_run, rows_of, lefts_of, rights_of}
use Rattle.chart_writer.proofs.bytes.put_bars.Given as goal

abbrev pub invariant-loop-x : goal.invariant-loop-x
invariant-loop-x l = (l.out ≡ sets l.initial.out 6 (bar_run (rows_of l.bars) (lefts_of l.bars) (rights_of l.bars) l.x))
