-- All bars lie within the chart, and bars in order share no cell.
use Rattle.chart.specs.Decode.{chart_in}
use Rattle.nearest.proofs.Ordering.{ordered_rule}
use Rattle.nearest.proofs.bars.bars_keep.Goals as goal

pub returns-then-all_lie : goal.returns-then-all_lie
returns-then-all_lie c =
    let n = c.requires.bars.0.count in
    let lie = c.all_lie.ensures.yes c.if-all_lie.true in record { yes = λ h. let O = c.put_in_order.ensures.yes h in (ordered_rule (chart_in c.args.chart.now) n lie O, O); no = λ h R. (rw n at (c.put_in_order.ensures.no h)) R.1 }
