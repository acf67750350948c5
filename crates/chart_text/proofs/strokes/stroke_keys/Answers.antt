use mathlib.Core.Path.{ap, ◌∙◌}
use Prim.Native.Nat.{◌+◌, ◌*◌}
use native.Mathlib.Omega.{arith}
use Rattle.chart.specs.Chart.{Stroke}
use Rattle.chart.specs.Decode.{chart_in}
use Rattle.chart_reader.proofs.Stroked.{place_room, stroke_in}
use Rattle.chart_text.specs.Text.{standing}
use Rattle.chart_text.proofs.Sorting.{keys_none, keys_more}
use Rattle.chart_text.proofs.strokes.stroke_keys.Goals as goal

pub loop-i-init : goal.loop-i-init
loop-i-init c = keys_none c.args.strokes.now.chart.now c.args.strokes.now.at.now c.args.keys.now

pub stroke_at-requires : goal.stroke_at-requires
stroke_at-requires c = place_room _ _ _ c.args.strokes.now.found c.loop-i.i c.loop-i-test.true

pub stroke_key-requires : goal.stroke_key-requires
stroke_key-requires c =
    (stroke_in _ _ _ c.args.strokes.now.found c.loop-i.i c.loop-i-test.true c.stroke_at.ensures c.requires.0, omega (arith, c.args.strokes.now.sizes, c.loop-i-test.true))

pub loop-i-preserved : goal.loop-i-preserved
loop-i-preserved c =
    let key = c.stroke_key.ensures ∙ ap (λ (t : Stroke). standing (chart_in c.args.strokes.now.chart.now) t * 2048 + c.loop-i.i) c.stroke_at.ensures in
    keys_more c.args.strokes.now.chart.now c.args.strokes.now.at.now c.loop-i.i c.loop-i.keys _ (omega (arith, c.requires.1)) c.loop-i.invariant key
