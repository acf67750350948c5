-- The word, then the number.
use native.Mathlib.Omega.{arith}
use Rattle.log_line.specs.Line.{decimal}
use Rattle.log_line.proofs.Digits.{digits_length}
use Rattle.log_line.proofs.Putting.{put_then}
use Rattle.log_line.proofs.put_field.Goals as goal

pub put_digits-requires : goal.put_digits-requires
put_digits-requires c = omega (arith, digits_length 20 c.args.n, c.put_word-next.ensures.end, c.put_word-next.auto.out)

pub returns : goal.returns
unfolding decimal
returns c =
    record { text = put_then c.put_word-next.ensures c.put_digits.ensures; within = omega (arith, c.put_digits.ensures.end, c.put_word-next.ensures.end, digits_length 20 c.args.n) }
