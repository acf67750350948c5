use native.Mathlib.Omega.{arith}
use Rattle.lists.proofs.Places.{at_all}
use Rattle.drawing.proofs.Marks.{marked_none, marked_next}
use Rattle.drawing.proofs.closing.mark.Goals as goal

pub loop-row-init : goal.loop-row-init
loop-row-init c = marked_none c.args.marks.now c.requires.zeros

pub bounds-marks-from : goal.bounds-marks-from
bounds-marks-from c = omega (arith, c.from.ensures, at_all 0 c.requires.inside c.loop-row.row-index c.loop-row-test.true)

pub loop-row-preserved : goal.loop-row-preserved
loop-row-preserved c =
    rw c.from.ensures
    (marked_next c.args.rows.now c.loop-row.marks c.loop-row.row-index c.loop-row-test.true (omega (arith, at_all 0 c.requires.inside c.loop-row.row-index c.loop-row-test.true)) c.loop-row.invariant)
