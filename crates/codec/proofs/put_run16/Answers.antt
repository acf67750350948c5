use mathlib.Core.Path.{refl, ◌∙◌}
use native.Mathlib.Omega.{arith}
use lib.ListN.{take}
use Rattle.codec.specs.Numbers.{run16}
use Rattle.codec.proofs.Numbers.{run16_next}
use Rattle.codec.proofs.put_run16.Goals as goal

pub loop-i-init : goal.loop-i-init
unfolding run16
loop-i-init c = refl

pub loop-i-preserved : goal.loop-i-preserved
loop-i-preserved c = c.put16.ensures ∙ rw (c.from.ensures, c.loop-i.invariant) (run16_next (take c.args.m c.args.xs.now) c.args.s.now c.args.at c.loop-i.i (omega arith))
