-- The part's tables, then its chart.
use mathlib.Core.Path.{ap, ◌∙◌}
use Rattle.codec.specs.Answer.{written}
use Rattle.chart.specs.Chart.{Chart}
use Rattle.draw.specs.Charted.{limit_of, unless_stopped}
use Rattle.draw.proofs.Charting.{chart_held}
use Rattle.draw.proofs.draw_part.Goals as goal

pub returns : goal.returns
returns c =
    let a = c.args in
    let corners = c.head-n.ensures.corners in
    (c.write_part.ensures _ c.fill.ensures).answer
    ∙ ap (λ (ch : Chart). written (unless_stopped (limit_of a.limit) a.room ch) a.out.now) (chart_held a.part.now corners c.requires)
