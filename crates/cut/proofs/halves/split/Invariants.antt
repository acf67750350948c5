-- The loop's invariant is `Splitting`.
use lib.ListN.{length}
use Rattle.polygon.specs.Polygon.{◌—◌}
use Rattle.cut.proofs.Splitting.{Splitting}
use Rattle.cut.proofs.halves.split.Given as goal

abbrev pub invariant-loop-j : goal.invariant-loop-j
invariant-loop-j l = Splitting (l.a — l.b) l.bends (length l.initial.inside) (length l.initial.outside) l.inside l.outside l.i l.j
