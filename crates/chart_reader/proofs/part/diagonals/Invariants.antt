-- The loop's invariant is `Choosing`.
use lib.ListN.{length}
use Rattle.chart_reader.proofs.Choosing.{Choosing}
use Rattle.chart_reader.proofs.part.diagonals.Given as goal

abbrev pub invariant-loop-k : goal.invariant-loop-k
invariant-loop-k l = Choosing l.n l.edges (length l.initial.keys) l.keys l.m l.k-index
