-- The drawing without a limit is the tape's (Label.antt).
use mathlib.Core.Path.{ap, ◌∙◌}
use mathlib.Core.List.{map}
use Rattle.codec.specs.TwoOutputs.{BothOutcome, written_both}
use Rattle.sheet.specs.Sheet.{read_sheet}
use Rattle.chart.specs.Chart.{Bar}
use Rattle.chart.specs.Decode.{bar_of}
use Rattle.draw.specs.Answer.{drawn_with_bars}
use Rattle.draw.proofs.Label.{tape_both}
use Rattle.draw.proofs.draw_with_bars.Goals as goal

pub returns : goal.returns
unfolding drawn_with_bars
returns c =
    let a = c.args in
    c.draw_bars.ensures ∙ ap (λ (o : BothOutcome Bar). written_both o a.out.now (map bar_of a.bars.now)) (tape_both (read_sheet a.sheet.now))
