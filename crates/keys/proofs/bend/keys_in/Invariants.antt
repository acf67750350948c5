-- The loop's invariant: the keys before j are those of the bends.
use Rattle.std.proofs.Common.{◌≡◌, take}
use Rattle.keys.specs.Keys.{keys_in}
use Rattle.keys.proofs.bend.keys_in.Given as goal

abbrev pub invariant-loop-j : goal.invariant-loop-j
invariant-loop-j l = take l.j l.keys ≡ keys_in (take l.j l.bends)
