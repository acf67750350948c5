-- The loop's invariant: the apexes looked at reach as far as they should.
use Rattle.std.proofs.Common.{◌≡◌, ℕ, ◌%◌, ◌<◌, length, get_or}
use Rattle.keys.proofs.cross.reaches.Given as goal

abbrev pub invariant-loop-k : goal.invariant-loop-k
invariant-loop-k l = (i : ℕ) → i < length l.yielded → get_or l.top (get_or l.apex i 0) 0 ≡ get_or l.keys i 0 % 1024
