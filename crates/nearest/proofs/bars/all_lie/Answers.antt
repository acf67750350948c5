use Rattle.std.proofs.Common.{rules, refl, arith}
use Rattle.std.proofs.lemmas.Iterator.{cases_from_all, YieldsList-from_range}
use Rattle.lists.proofs.Chains.{all_yes, all_no, range_below}
use Rattle.chart.specs.Decode.{chart_in}
use Rattle.nearest.specs.BarRule.{Lies}
use Rattle.nearest.proofs.bars.all_lie.Goals as goal

pub returns : goal.returns
returns c =
    let lies = Lies (chart_in c.args.chart.now) in
    let cases = rw range_below at (cases_from_all _ _ _ lies (λ x. ¬ lies x) c.all.ensures.ran (YieldsList-from_range 0 c.args.n c.args.n refl (omega arith)) (λ x q k. search rules) (λ x q k. search rules)) in
    record { yes = all_yes _ cases; no = all_no _ cases }
