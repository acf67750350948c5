-- A turn stores the chart's bar of corner i.
use Rattle.std.proofs.Common.{◌∙◌, ap, take, slice_set}
use Rattle.chart.specs.Chart as chart
use Rattle.chart.specs.Decode.{record_of}
use Rattle.bar_list.specs.Bars.{filled}
use Rattle.bar_list.proofs.Filled.{filled_more}
use Rattle.bar_list.proofs.fill_bars.Goals as goal

pub loop-i-preserved : goal.loop-i-preserved
loop-i-preserved c =
    let s = c.args.chart.now in
    let ys = take c.args.n c.args.bars.now in
    ap (λ xs. slice_set xs c.loop-i.i c.corner_bar.result) c.loop-i.invariant
    ∙ ap (λ (z : chart.Bar). slice_set (filled s c.loop-i.i ys) c.loop-i.i (record_of z)) c.corner_bar.ensures
    ∙ filled_more s c.loop-i.i ys c.loop-i-test.true
