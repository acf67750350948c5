-- By what was read and what was drawn, by the laws of Answers.antt.
use mathlib.Core.Path.{◌≡◌, ◌∙◌}
use Rattle.std.specs.Prelude.{Ok, Err}
use mathlib.Core.List.{List, map}
use Rattle.std.proofs.lemmas.Result.{err_from_is_err_and}
use Rattle.codec.specs.TwoOutputs.{written_both}
use Rattle.sheet.specs.Sheet.{Reading, held, read_sheet}
use Rattle.sheet.proofs.Hand.{read_is}
use Rattle.chart.specs.declared.Bar.{Bar}
use Rattle.chart.specs.Decode.{bar_of}
use Rattle.draw.specs.Label.{charted_both_within}
use Rattle.draw.specs.Charted.{limit_of}
use Rattle.draw.proofs.Answers.{for_none, for_chart, chart_fits}
use Rattle.draw.proofs.draw_within.Goals.{After-draw_part}
use Rattle.draw.proofs.draw_within.Goals as goal

-- what is drawn of the part is drawn of the sheet
whole : (c : After-draw_part) (bars : List Bar) → written_both (charted_both_within (limit_of c.args.limit) (held c.in_ok-part.part)) c.args.out.now (map bar_of bars)
    ≡ written_both (charted_both_within (limit_of c.args.limit) (read_sheet c.args.sheet.now)) c.args.out.now (map bar_of bars)
whole c bars = read_is (Ok c.in_ok-part.part) (λ (q : Reading). written_both (charted_both_within (limit_of c.args.limit) q) c.args.out.now (map bar_of bars)) c.in_ok-part.ensures.part

pub returns-in_err-part-clause-answer : goal.returns-in_err-part-clause-answer
unfolding charted_both_within written_both
returns-in_err-part-clause-answer c =
    let p = err_from_is_err_and c.from_residual.result c.from_residual.ensures.1 in
    λ bars l. rw (p.1, p.2) (read_is (Err c.in_err-part.field-0.0) (λ (q : Reading). written_both (charted_both_within (limit_of c.args.limit) q) c.args.out.now (map bar_of bars)) c.in_err-part.ensures.part)

pub returns-in_err-size-clause-answer : goal.returns-in_err-size-clause-answer
returns-in_err-size-clause-answer c =
    let a = c.args in
    let p = err_from_is_err_and c.from_residual-in_err-size.result c.from_residual-in_err-size.ensures.1 in
    let law = for_none (limit_of a.limit) c.in_ok-part.part c.head-n.ensures.valid.triangulated a.out.now a.room c.draw_part.new.out _ c.in_err-size.ensures in
    λ bars l. rw (p.1, p.2) (law bars l ∙ whole (goal.at.returns-in_err-size-clause-answer c).After-draw_part bars)

pub returns-clause-answer : goal.returns-clause-answer
returns-clause-answer c =
    let a = c.args in
    let law = for_chart (limit_of a.limit) c.in_ok-part.part c.head-n.ensures.valid.triangulated a.out.now a.room c.draw_part.new.out _ c.in_ok-size.ensures in
    λ bars l. rw c.head-n.ensures.corners (law bars l) ∙ whole (goal.at.returns-clause-answer c).After-draw_part bars

pub returns-clause-fits : goal.returns-clause-fits
returns-clause-fits c =
    let a = c.args in
    rw c.head-n.ensures.corners (chart_fits (limit_of a.limit) c.in_ok-part.part c.head-n.ensures.valid.triangulated a.out.now a.room c.draw_part.new.out _ c.in_ok-size.ensures)
