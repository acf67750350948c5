-- The loop's invariant is `Counting`; the span falls at each call.
use Prim.Native.Nat.{◌-◌}
use Rattle.plan.proofs.Counting.{Counting}
use Rattle.plan.proofs.counts.+count.Given as goal

abbrev pub decreases-count : goal.decreases-count
decreases-count l = l.p.v - l.p.u

abbrev pub invariant-loop-x : goal.invariant-loop-x
invariant-loop-x l = Counting l.tables.tree l.tables.depths l.initial.x l.x l.umbrellas l.stems

abbrev pub decreases-loop-x : goal.decreases-loop-x
decreases-loop-x l = l.x.piece.v - l.x.piece.u
