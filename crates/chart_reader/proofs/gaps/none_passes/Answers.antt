-- The gaps are put, and each upright is held against them.
use Rattle.std.proofs.Common.{◌≡◌, ℕ, ◌+◌, ◌%◌, ◌<◌, length, get_or, true≢false, sym, arith}
use Rattle.chart.specs.Decode.{chart_in}
use Rattle.nearest.specs.Order.{firsts, lasts}
use Rattle.nearest.proofs.Seeking.{firsts_length, lasts_length}
use Rattle.chart_reader.proofs.Passing.{gaps_ordered, ends_within, ends_room, no_gaps, clear_rule, rule_clear}
use Rattle.chart_reader.proofs.gaps.none_passes.Goals.{After-put_gaps}
use Rattle.chart_reader.proofs.gaps.none_passes.Goals as goal

-- the last cells of the bars lie in columns that have one behind them
within : (c : After-put_gaps) → (i : ℕ) → i < length (lasts c.args.spans.now) → get_or (lasts c.args.spans.now) i 0 % 65536 < 65535
within c = ends_within (chart_in c.args.strokes.now.chart.now) c.args.strokes.now.n (firsts c.args.spans.now) (lasts c.args.spans.now) _ c.requires.bars.1 c.requires.chart.0 c.args.strokes.now.found.count c.args.strokes.now.small.1

-- where the gaps start
froms : (c : After-put_gaps) → (i : ℕ) → i < length (lasts c.args.spans.now) → get_or (firsts c.put_gaps.new.gaps) i 0 ≡ get_or (lasts c.args.spans.now) i 0 + 1
froms c i h = rw c.put_gaps.ensures.starts (c.put_empty.ensures i (omega (arith, lasts_length c.args.spans.now))).0

long : (c : After-put_gaps) → length (firsts c.put_gaps.new.gaps) ≡ length (lasts c.args.spans.now)
long c = omega (arith, firsts_length c.put_gaps.new.gaps, c.put_gaps.auto.gaps, c.put_empty.auto.gaps, c.requires.size, c.requires.bars.1.order.size, c.requires.bars.1.count)

pub put_empty-requires : goal.put_empty-requires
put_empty-requires c = record {
  size = omega (arith, c.requires.size, firsts_length c.args.spans.now, c.requires.bars.1.count);
  room = λ i h. ends_room (chart_in c.args.strokes.now.chart.now) c.args.strokes.now.n (firsts c.args.spans.now) (lasts c.args.spans.now) _ c.requires.bars.1 c.requires.chart.0 c.args.strokes.now.found.count
      c.args.strokes.now.small.0 c.args.strokes.now.small.1 i (omega (arith, lasts_length c.args.spans.now));
}

pub returns-then-not-put_gaps : goal.returns-then-not-put_gaps
returns-then-not-put_gaps c = record { yes = λ h. no_gaps c.args.strokes.now.chart.now c.args.strokes.now.n c.args.strokes.now.at.now c.args.strokes.now.found (c.put_gaps.ensures.any c.if-not-put_gaps.true); no = λ h. absurd (true≢false h) }

pub all_clear-requires : goal.all_clear-requires
all_clear-requires c =
    let here = (goal.at.all_clear-requires c).After-put_gaps in
    let O = c.requires.bars.1 in
    (c.requires.chart.1.0, gaps_ordered (chart_in c.args.strokes.now.chart.now) _ _ (firsts c.args.spans.now) (lasts c.args.spans.now) (firsts c.put_gaps.new.gaps) _ c.put_gaps.ensures.gaps (long here) (froms here) (within here) (sym O.order.size) O.whole)

pub returns : goal.returns
returns c =
    let here = (goal.at.returns c).After-put_gaps in
    let a = c.args in
    let near = within here in
    record {
      yes = λ h. clear_rule a.strokes.now.chart.now a.strokes.now.n a.strokes.now.at.now c.args.strokes.now.found (firsts a.spans.now) (lasts a.spans.now) (firsts c.put_gaps.new.gaps) _ c.put_gaps.ensures.gaps (long here) (froms here) near (c.all_clear.ensures.yes h);
      no = λ h R. c.all_clear.ensures.no h (rule_clear a.strokes.now.chart.now a.strokes.now.n a.strokes.now.at.now c.args.strokes.now.found (firsts a.spans.now) (lasts a.spans.now) (firsts c.put_gaps.new.gaps) _ c.put_gaps.ensures.gaps (long here) (froms here) near R);
    }
