use mathlib.Core.Path.{refl, ◌∙◌}
use native.Mathlib.Omega.{arith}
use Rattle.codec.specs.Numbers.{run16}
use Rattle.sheet_writer.proofs.Writing.{angles_next}
use Rattle.sheet_writer.proofs.put_angles.Goals as goal

pub loop-i-init : goal.loop-i-init
unfolding run16
loop-i-init c = (omega arith, refl, refl)

pub loop-i-preserved : goal.loop-i-preserved
loop-i-preserved c = (
  omega arith,
  c.put16.auto.s ∙ c.loop-i.invariant.1,
  c.put16.ensures ∙ rw (c.angle_in.ensures.0, c.loop-i.invariant.2)
      (angles_next c.args.bends.now c.args.out.now c.args.at c.loop-i.i (omega arith)),
)
