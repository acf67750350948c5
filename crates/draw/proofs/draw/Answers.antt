-- The answer of `draw_for` with room for any part, by `without_bars` of Answers.antt.
use mathlib.Core.Path.{◌≡◌, ap, sym, ◌∙◌}
use mathlib.Core.List.{map}
use Rattle.std.proofs.Common.{rules}
use Rattle.codec.specs.Answer.{Outcome, written}
use Rattle.codec.specs.TwoOutputs.{BothOutcome, written_both}
use Rattle.sheet.specs.Sheet.{read_sheet}
use Rattle.chart.specs.Chart.{Bar}
use Rattle.chart.specs.Decode.{bar_of}
use Rattle.draw.specs.Answer.{drawn, drawn_with_bars}
use Rattle.draw.specs.Label.{tape}
use Rattle.draw.proofs.Label.{tape_charted, tape_both}
use Rattle.draw.proofs.Answers.{alone, without_bars}
use Rattle.draw.proofs.draw.Goals as goal

pub returns : goal.returns
unfolding drawn drawn_with_bars
returns c =
    let a = c.args in
    let q = read_sheet a.sheet.now in
    let f = c.draw_for in
    let first : c.map.result ≡ alone f.result = search rules in
    rw first
    (without_bars tape a.sheet.now a.out.now f.new.out f.result (λ bars l. f.ensures.answer bars l ∙ ap (λ (o : BothOutcome Bar). written_both o a.out.now (map bar_of bars)) (sym (tape_both q)))
    ∙ ap (λ (o : Outcome). written o a.out.now) (tape_charted q))
