-- The loop's invariant is `KeysRead`.
use lib.ListN.{length}
use Rattle.chart_reader.proofs.Keyed.{KeysRead}
use Rattle.chart_reader.proofs.strokes.edge_keys.Given as goal

abbrev pub invariant-loop-i : goal.invariant-loop-i
invariant-loop-i l = KeysRead l.strokes.chart.now l.strokes.n l.strokes.at.now (length l.initial.keys) l.keys l.i
