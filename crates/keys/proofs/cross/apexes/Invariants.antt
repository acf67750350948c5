-- The loop's invariant is `Scanned`.
use Rattle.std.proofs.Common.{length}
use Rattle.keys.proofs.Apexes.{Scanned}
use Rattle.keys.proofs.cross.apexes.Given as goal

abbrev pub invariant-loop-j : goal.invariant-loop-j
invariant-loop-j l = Scanned l.n l.keys (length l.initial.apex) l.top l.apex l.j
