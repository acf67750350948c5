-- The loop's invariant is `Placing`.
use lib.ListN.{length}
use Rattle.chart_reader.proofs.Placing.{Placing}
use Rattle.chart_reader.proofs.frame.stroke_places.Given as goal

abbrev pub invariant-loop-place : goal.invariant-loop-place
invariant-loop-place l = Placing l.chart l.from (length l.initial.at) l.at l.place-index l.p
