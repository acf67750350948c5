use native.Mathlib.Omega.{arith}
use lib.ListN.{length}
use Rattle.chart_reader.proofs.Choosing.{choosing_yes, choosing_no, chosen_all}
use Rattle.chart_reader.proofs.part.diagonals.Goals.{then-is_diagonal, else-is_diagonal}
use Rattle.chart_reader.proofs.part.diagonals.Goals as goal

pub loop-k-preserved : goal.loop-k-preserved
loop-k-preserved c =
    elim c.if-is_diagonal.branch [
      | then-is_diagonal w ↦ rw (w.keys-is, w.m-is) (choosing_yes c.args.n c.args.edges.now (length c.args.keys.now) c.loop-k.keys c.loop-k.m c.loop-k.k-index c.loop-k.invariant c.requires.0 c.loop-k-test.true (c.is_diagonal.ensures.yes w.if-is_diagonal.true))
      | else-is_diagonal w ↦ rw (w.keys-is, w.m-is) (choosing_no c.args.n c.args.edges.now (length c.args.keys.now) c.loop-k.keys c.loop-k.m c.loop-k.k-index c.loop-k.invariant c.requires.0 c.loop-k-test.true (c.is_diagonal.ensures.no w.if-is_diagonal.false))
    ]

pub returns : goal.returns
returns c =
    record { within = omega (arith, c.loop-k.invariant.low, c.loop-k.invariant.upto); kept = chosen_all c.args.n c.args.edges.now (length c.args.keys.now) c.loop-k.keys c.loop-k.m c.loop-k.k-index c.loop-k.invariant c.loop-k-test.false }
