-- By the map byte, and then field by field.
use Rattle.std.proofs.Common.{◌≡◌, ◌%◌, get_or, arith}
use Rattle.chart.specs.Decode.{shaped}
use Rattle.chart.proofs.stroke_at.Goals as goal
use Rattle.chart.proofs.stroke_at.Goals.{then-bytes-at-eq1, else-bytes-at-eq1}

pub returns : goal.returns
unfolding shaped
returns c = elim c.if-bytes-at-eq1.branch [
  | then-bytes-at-eq1 w ↦ rw (w.column-is, w.if-bytes-at-eq1.true, w.number.ensures, c.number-2.ensures, c.number-3.ensures)
  | else-bytes-at-eq1 w ↦
      let bit : get_or c.args.bytes.now c.args.at 0 % 2 ≡ 0 = omega (arith, w.if-bytes-at-eq1.false) in
      rw (w.column-is, bit, c.number-2.ensures, c.number-3.ensures)
]
