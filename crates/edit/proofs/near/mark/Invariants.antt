-- The loop's invariant: the corners joined to c by a side or by an edge before the loop's are marked.
use Prim.Native.Nat.{◌≤◌}
use lib.ListN.{length, take}
use Rattle.keys.specs.Keys.{edges_of}
use Rattle.edit.specs.Tables.{Near}
use Rattle.edit.proofs.near.mark.Given as goal

abbrev pub invariant-loop-key : goal.invariant-loop-key
invariant-loop-key l = (1024 ≤ length l.near) × Near l.n (edges_of (take l.key-index l.keys)) l.c l.near
