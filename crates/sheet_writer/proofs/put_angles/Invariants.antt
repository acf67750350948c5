-- The loop's invariant: the first i angles are stored.
use Prim.Native.Nat.{◌≤◌, ◌-◌}
use mathlib.Core.Path.{◌≡◌}
use lib.ListN.{length, take}
use lib.Seq.{sets}
use Rattle.codec.specs.Numbers.{run16}
use Rattle.keys.specs.Keys.{angles_in}
use Rattle.sheet_writer.proofs.put_angles.Given as goal

abbrev pub invariant-loop-i : goal.invariant-loop-i
invariant-loop-i l = (l.i ≤ length l.bends) × (length l.out ≡ length l.initial.out) × (l.out ≡ sets l.initial.out l.at (run16 (angles_in (take l.i l.bends))))

abbrev pub decreases-loop-i : goal.decreases-loop-i
decreases-loop-i l = length l.bends - l.i
