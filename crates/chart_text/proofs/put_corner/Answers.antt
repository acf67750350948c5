-- The corner, the row, the two columns, the line's end; a corner has at most four digits, the other numbers five.
use native.Mathlib.Omega.{arith}
use Rattle.log_line.specs.Line.{columns_word}
use Rattle.log_line.proofs.Putting.{put_then}
use Rattle.chart_text.specs.Text.{corner_word, row_word, to_word, corner_line}
use Rattle.chart_text.proofs.Lines.{field_end}
use Rattle.chart_text.proofs.put_corner.Goals as goal

pub returns : goal.returns
unfolding corner_line
returns c =
    let pe = field_end corner_word 3 c.args.corner (omega (arith, c.requires)) c.put_field-a.ensures.text in
    let qe = field_end row_word 4 c.args.bar.row (omega arith) c.put_field-b.ensures.text in
    let re = field_end columns_word 4 c.args.bar.left (omega arith) c.put_field-c.ensures.text in
    let te = field_end to_word 4 c.args.bar.right (omega arith) c.put_field-d.ensures.text in
    record { text = put_then c.put_field-a.ensures.text (put_then c.put_field-b.ensures.text (put_then c.put_field-c.ensures.text (put_then c.put_field-d.ensures.text c.put_word.ensures))); within = omega (arith, c.put_word.ensures.end, pe, qe, re, te) }
