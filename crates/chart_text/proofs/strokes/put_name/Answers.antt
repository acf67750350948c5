-- By the cells that the stroke runs between; its columns have at most five digits.
use native.Mathlib.Omega.{arith}
use Rattle.log_line.proofs.Putting.{put_then}
use Rattle.chart.specs.Decode.{chart_in}
use Rattle.chart_text.specs.Text.{line_word, level_word, to_word}
use Rattle.chart_text.proofs.Lines.{field_end}
use Rattle.chart_text.proofs.Words.{level_put, line_put}
use Rattle.chart_text.proofs.strokes.put_name.Goals as goal

pub returns-in-None : goal.returns-in-None
returns-in-None c =
    let C = chart_in c.args.strokes.now.chart.now in
    record { text = level_put C c.args.s c.stroke_ends.ensures c.in-None.is (put_then c.put_field-a.ensures.text c.put_field.ensures.text); within = omega (arith, field_end level_word 4 c.stroke_ends.result.first.column (omega (arith, c.stroke_ends.ensures.first_small)) c.put_field-a.ensures.text, field_end to_word 4 c.stroke_ends.result.last.column (omega (arith, c.stroke_ends.ensures.last_small)) c.put_field.ensures.text) }

pub returns-in-Some : goal.returns-in-Some
returns-in-Some c =
    let C = chart_in c.args.strokes.now.chart.now in
    record { text = line_put C c.args.s c.stroke_ends.ensures c.in-Some.is c.put_field-in-Some.ensures.text; within = omega (arith, field_end line_word 4 c.stroke_ends.result.first.column (omega (arith, c.stroke_ends.ensures.first_small)) c.put_field-in-Some.ensures.text) }
