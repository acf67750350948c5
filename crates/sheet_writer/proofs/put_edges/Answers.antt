use mathlib.Core.Path.{refl, ◌∙◌}
use native.Mathlib.Omega.{arith}
use Rattle.sheet.specs.Sheet.{pair_bytes}
use Rattle.sheet_writer.proofs.Writing.{edges_next}
use Rattle.sheet_writer.proofs.put_edges.Goals as goal

pub loop-i-init : goal.loop-i-init
unfolding pair_bytes
loop-i-init c = (omega arith, refl, refl)

pub loop-i-preserved : goal.loop-i-preserved
loop-i-preserved c = (
  omega arith,
  c.put16-in-loop-i.auto.s ∙ (c.put16.auto.s ∙ c.loop-i.invariant.1),
  c.put16-in-loop-i.ensures ∙ rw (c.put16.ensures, c.low.ensures, c.high.ensures.0, c.key_in-k.ensures.0, c.loop-i.invariant.2)
      (edges_next c.args.bends.now c.args.out.now c.args.at c.loop-i.i (omega arith)),
)
