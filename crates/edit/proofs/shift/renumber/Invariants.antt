-- The loop's invariant is `Mapping`.
use lib.ListN.{length}
use Rattle.edit.proofs.Shifting.{Mapping}
use Rattle.edit.proofs.shift.renumber.Given as goal

abbrev pub invariant-loop-j : goal.invariant-loop-j
invariant-loop-j l = Mapping l.shift l.bends (length l.initial.out) l.out l.j
