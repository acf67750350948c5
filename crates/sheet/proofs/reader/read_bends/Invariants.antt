-- The loop's invariant is `Listed`.
use mathlib.Core.Path.{◌≡◌}
use Prim.Native.Nat.{◌*◌, ◌-◌}
use lib.ListN.{length}
use Rattle.sheet.proofs.Pairs.{Listed}
use Rattle.sheet.proofs.reader.read_bends.Given as goal

abbrev pub invariant-loop-i : goal.invariant-loop-i
invariant-loop-i l = (l.m ≡ l.n - 3) × Listed l.sheet l.n l.angled (length l.sheet - 2 * (l.n - 3)) (length l.initial.bends) l.bends l.i

abbrev pub decreases-loop-i : goal.decreases-loop-i
decreases-loop-i l = l.m - l.i
