-- The tests in their order, by the laws of Following.antt.
use mathlib.Core.Path.{sym}
use Rattle.chart.specs.Decode.{chart_in}
use Rattle.chart_reader.proofs.Following.{by_15, by_9, followed_by, answer_is}
use Rattle.chart_reader.proofs.follow.follow.Goals as goal

pub returns-then-not-bars_keep : goal.returns-then-not-bars_keep
returns-then-not-bars_keep c = sym (followed_by _ _ (by_15 c.args.strokes.now.found.formed (c.bars_keep.ensures.no c.if-not-bars_keep.true)))

pub returns-then-not-asked : goal.returns-then-not-asked
returns-then-not-asked c = sym (followed_by _ _ (by_9 c.args.strokes.now.found.formed (c.bars_keep.ensures.yes c.if-not-bars_keep.false).0 (c.asked.ensures.no c.if-not-asked.true)))

pub returns : goal.returns
returns c =
    let C = chart_in c.args.strokes.now.chart.now in
    let (rule, order) = c.bars_keep.ensures.yes c.if-not-bars_keep.false in
    answer_is c.args.strokes.now.chart.now _ c.args.strokes.now.bars.count c.args.strokes.now.found.formed rule (c.asked.ensures.yes c.if-not-asked.false) (c.nearest_corner.ensures C.bar c.args.strokes.now.n order)
