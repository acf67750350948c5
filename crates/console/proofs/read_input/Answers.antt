-- Two reads, one behind the other, are one.
use Rattle.std.proofs.Common.{arith}
use Rattle.std.proofs.KnownBytes.{Consumes-trans}
use Rattle.std.proofs.Math.Seq.{take-add}
use Rattle.console.proofs.read_input.Goals as goal

pub loop-done-preserved : goal.loop-done-preserved
loop-done-preserved g c =
    let next = c.in_ok-more.ensures in
    let kept = c.read_on.auto.buf in
    let held = c.loop-done.invariant in
    (omega arith, omega arith, rw (take-add, next.kept) (Consumes-trans _ _ _ _ _ held.2 next.bytes.0))
