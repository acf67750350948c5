-- The loop's invariant: the bends before j are flat.
use mathlib.Core.Path.{◌≡◌}
use mathlib.Core.List.{map}
use Prim.Native.Nat.{◌≤◌, ◌-◌}
use lib.ListN.{length, take}
use Rattle.keys.specs.Keys.{keys_in, flat_bend}
use Rattle.seam.proofs.halves.flatten.Given as goal

abbrev pub invariant-loop-j : goal.invariant-loop-j
invariant-loop-j l = (l.j ≤ length l.bends) × (length l.out ≡ length l.initial.out) × (take l.j l.out ≡ map flat_bend (keys_in (take l.j l.bends)))

abbrev pub decreases-loop-j : goal.decreases-loop-j
decreases-loop-j l = length l.bends - l.j
