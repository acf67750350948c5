-- The loop's invariant: the bends before j are of the keys.
use mathlib.Core.Path.{◌≡◌}
use mathlib.Core.List.{map}
use Prim.Native.Nat.{◌≤◌, ◌-◌}
use lib.ListN.{length, take}
use Rattle.keys.specs.Keys.{flat_bend}
use Rattle.sheet.proofs.part.flat_bends.Given as goal

abbrev pub invariant-loop-j : goal.invariant-loop-j
invariant-loop-j l = (l.j ≤ length l.keys) × (length l.bends ≡ length l.initial.bends) × (take l.j l.bends ≡ map flat_bend (take l.j l.keys))

abbrev pub decreases-loop-j : goal.decreases-loop-j
decreases-loop-j l = length l.keys - l.j
