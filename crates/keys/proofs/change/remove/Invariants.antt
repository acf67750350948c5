-- The loop's invariant is `Removing`.
use Rattle.std.proofs.Common.{length}
use Rattle.keys.proofs.Removal.{Removing}
use Rattle.keys.proofs.change.remove.Given as goal

abbrev pub invariant-loop-b : goal.invariant-loop-b
invariant-loop-b l = Removing l.k l.bends (length l.initial.out) l.out l.left l.b-index
