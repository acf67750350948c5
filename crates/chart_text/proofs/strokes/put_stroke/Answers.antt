-- The name, then the corners.
use native.Mathlib.Omega.{arith}
use Rattle.log_line.proofs.Putting.{put_then}
use Rattle.chart.specs.Decode.{chart_in}
use Rattle.chart_text.proofs.Words.{stroke_put}
use Rattle.chart_text.proofs.strokes.put_stroke.Goals as goal

pub returns : goal.returns
returns c =
    record { text = stroke_put (chart_in c.args.strokes.now.chart.now) c.args.s c.args.strokes.now.bars.count (put_then c.put_name-next.ensures.text c.put_edge.ensures.text); within = omega (arith, c.put_name-next.ensures.within, c.put_edge.ensures.within) }
