-- Word after word.
use Rattle.log_line.specs.Line.{line}
use Rattle.log_line.proofs.Putting.{put_then}
use Rattle.log_line.proofs.put_line.Goals as goal

pub returns : goal.returns
unfolding line
returns c =
    put_then c.put_field-a.ensures.text (put_then c.put_field-b.ensures.text (put_then c.put_field-c.ensures.text (put_then c.put_field-d.ensures.text
    (put_then c.put_field-e.ensures.text (put_then c.put_field-g.ensures.text c.put_word.ensures)))))
