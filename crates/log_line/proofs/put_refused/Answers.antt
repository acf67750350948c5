-- The word, the number, the line's end.
use Rattle.log_line.specs.Line.{refused_line}
use Rattle.log_line.proofs.Putting.{put_then}
use Rattle.log_line.proofs.put_refused.Goals as goal

pub returns : goal.returns
unfolding refused_line
returns c = put_then c.put_field-a.ensures.text c.put_word.ensures
