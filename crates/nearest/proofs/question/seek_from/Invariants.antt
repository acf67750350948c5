-- The loop's invariant: x does not belong before `low`, and `from` and `low` are at most `high`.
use Prim.Native.Nat.{◌-◌, ◌≤◌}
use lib.ListN.{length}
use Rattle.nearest.specs.Order.{lasts, Within}
use Rattle.nearest.proofs.question.seek_from.Given as goal

abbrev pub invariant-loop-high : goal.invariant-loop-high
invariant-loop-high l = (l.from ≤ l.high) × (l.low ≤ l.high) × Within (lasts l.spans) l.x l.low (length (lasts l.spans))

abbrev pub decreases-loop-high : goal.decreases-loop-high
decreases-loop-high l = length l.spans - l.high
