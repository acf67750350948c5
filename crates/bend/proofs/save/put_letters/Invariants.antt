-- The name stays a text of letters and full stops.
use Rattle.std.proofs.Common.{IsAscii}
use Rattle.bend.proofs.save.put_letters.Given as goal

abbrev pub invariant-loop-i : goal.invariant-loop-i
invariant-loop-i l = IsAscii l.name
