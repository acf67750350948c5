-- The loop's invariant: the first i numbers of the run are stored.
use mathlib.Core.Path.{◌≡◌}
use lib.ListN.{take}
use lib.Seq.{sets}
use Rattle.codec.specs.Numbers.{run16}
use Rattle.codec.proofs.put_run16.Given as goal

abbrev pub invariant-loop-i : goal.invariant-loop-i
invariant-loop-i l = l.s ≡ sets l.initial.s l.at (run16 (take l.i (take l.m l.xs)))
