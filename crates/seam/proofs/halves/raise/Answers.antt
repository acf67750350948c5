use native.Mathlib.Omega.{arith}
use Rattle.seam.proofs.Raising.{raised_fits}
use Rattle.seam.proofs.halves.raise.Goals as goal

pub overflow_add-out : goal.overflow_add-out
overflow_add-out c = omega (arith, raised_fits c.args.by c.args.bends.now c.requires.2 c.loop-j.j (omega arith))
