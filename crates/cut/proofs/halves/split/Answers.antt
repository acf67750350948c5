use Rattle.cut.proofs.Splitting.{splitting_begin, split_inner, split_rest}
use Rattle.cut.proofs.halves.split.Goals.{then-beneath, else-beneath}
use Rattle.cut.proofs.halves.split.Goals as goal

pub loop-j-init : goal.loop-j-init
loop-j-init c = splitting_begin _ _ _ _

pub loop-j-preserved : goal.loop-j-preserved
loop-j-preserved c =
    elim c.if-beneath.branch [
      | then-beneath w ↦ rw (w.inside-is, w.outside-is, w.i-is) (split_inner c.loop-j.invariant c.requires c.loop-j-test.true (rw c.key_in.ensures.0 at (c.beneath.ensures.yes w.if-beneath.true)))
      | else-beneath w ↦ rw (w.inside-is, w.outside-is, w.i-is) (split_rest c.loop-j.invariant c.requires c.loop-j-test.true (λ b. c.beneath.ensures.no w.if-beneath.false (rw c.key_in.ensures.0 b)))
    ]
