use Rattle.std.proofs.Common.{sym, ◌∙◌}
use Rattle.keys.proofs.Removal.{removing_begin, removing_same, removing_other}
use Rattle.keys.proofs.change.remove.Goals as goal
use Rattle.keys.proofs.change.remove.Goals.{then-key_in-k, else-key_in-k}

pub loop-b-init : goal.loop-b-init
loop-b-init c = removing_begin _ _ _

pub loop-b-preserved : goal.loop-b-preserved
loop-b-preserved c =
    let R = c.loop-b.invariant in
    let key = c.key_in.ensures.0 in
    elim c.if-key_in-k.branch [
      | then-key_in-k w ↦ rw (w.out-is, w.left-is) (removing_other R c.requires c.loop-b-test.true (λ e. w.if-key_in-k.true (key ∙ e)))
      | else-key_in-k w ↦ rw (w.out-is, w.left-is) (removing_same R c.requires c.loop-b-test.true (sym key ∙ w.if-key_in-k.false))
    ]
