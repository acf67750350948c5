-- The loop's invariant: the bends before j are raised.
use mathlib.Core.Path.{◌≡◌}
use mathlib.Core.List.{map}
use Prim.Native.Nat.{◌≤◌}
use lib.ListN.{length, take}
use Rattle.seam.specs.Halves.{raised_bend}
use Rattle.seam.proofs.halves.raise.Given as goal

abbrev pub invariant-loop-j : goal.invariant-loop-j
invariant-loop-j l = (l.j ≤ length l.bends) × (length l.out ≡ length l.initial.out) × (take l.j l.out ≡ map (raised_bend l.by) (take l.j l.bends))
