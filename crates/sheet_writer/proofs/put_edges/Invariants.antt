-- The loop's invariant: the first i edges are stored.
use Prim.Native.Nat.{◌≤◌, ◌-◌}
use mathlib.Core.Path.{◌≡◌}
use lib.ListN.{length, take}
use lib.Seq.{sets}
use Rattle.keys.specs.Keys.{edges_of, keys_in}
use Rattle.sheet.specs.Sheet.{pair_bytes}
use Rattle.sheet_writer.proofs.put_edges.Given as goal

abbrev pub invariant-loop-i : goal.invariant-loop-i
invariant-loop-i l = (l.i ≤ length l.bends) × (length l.out ≡ length l.initial.out) × (l.out ≡ sets l.initial.out l.at (pair_bytes (edges_of (keys_in (take l.i l.bends)))))

abbrev pub decreases-loop-i : goal.decreases-loop-i
decreases-loop-i l = length l.bends - l.i
