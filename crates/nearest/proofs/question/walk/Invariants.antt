-- The loop's invariant: what the walk has found so far. The laws are in Columns.antt.
use Prim.Native.Nat.{◌-◌}
use Rattle.nearest.specs.Nearest.{found_of}
use Rattle.nearest.specs.Order.{firsts, lasts}
use Rattle.nearest.proofs.Columns.{Walk}
use Rattle.nearest.proofs.question.walk.Given as goal

abbrev pub invariant-loop-row : goal.invariant-loop-row
invariant-loop-row l = Walk (firsts l.spans) (lasts l.spans) l.column l.top l.bottom l.last (found_of l.found) l.row l.i

abbrev pub decreases-loop-row : goal.decreases-loop-row
decreases-loop-row l = l.bottom - l.row
