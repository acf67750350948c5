-- The loop's invariant is `Descending`; the span falls at each call.
use Prim.Native.Nat.{◌-◌}
use Rattle.levels.proofs.Descending.{Descending}
use Rattle.levels.proofs.+levels.Given as goal

abbrev pub decreases-levels : goal.decreases-levels
decreases-levels l = l.p.v - l.p.u

abbrev pub invariant-loop-x : goal.invariant-loop-x
invariant-loop-x l = Descending l.tree l.initial.depths l.initial.path l.from l.initial.x l.depths l.path l.x l.k

abbrev pub decreases-loop-x : goal.decreases-loop-x
decreases-loop-x l = l.x.v - l.x.u
