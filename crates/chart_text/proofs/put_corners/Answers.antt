use Rattle.std.proofs.Common.{arith}
use Rattle.chart_text.proofs.Lines.{corners_none, corners_more, corners_all}
use Rattle.chart_text.proofs.put_corners.Goals as goal

pub loop-x-init : goal.loop-x-init
loop-x-init c = (omega arith, corners_none c.args.strokes.now.chart.now c.args.out.now c.args.at)

pub loop-x-preserved : goal.loop-x-preserved
loop-x-preserved c = (
  omega (arith, c.put_corner-end.ensures.within, c.loop-x.invariant.0),
  corners_more c.args.strokes.now.chart.now c.loop-x.x c.loop-x.invariant.1 c.corner_bar.ensures c.put_corner-end.ensures.text,
)

pub returns : goal.returns
returns c =
    record { text = rw (corners_all c.args.strokes.now.chart.now c.loop-x.x (omega (arith, c.args.strokes.now.bars.count))) at c.loop-x.invariant.1; within = omega arith }
