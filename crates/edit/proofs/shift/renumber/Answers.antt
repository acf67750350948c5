use mathlib.Core.Path.{◌∙◌}
use Rattle.edit.specs.Rules.{both}
use Rattle.edit.proofs.Shifting.{mapping_next, movable_at}
use Rattle.edit.proofs.shift.renumber.Goals as goal

pub moved-a-requires : goal.moved-a-requires
moved-a-requires c =
    rw (c.low.ensures, c.key_in-k.ensures.0) (movable_at c.args.shift c.args.bends.now c.requires.1 c.loop-j.j c.loop-j-test.true).0

pub moved-b-requires : goal.moved-b-requires
moved-b-requires c =
    rw (c.high.ensures.0, c.key_in-k.ensures.0) (movable_at c.args.shift c.args.bends.now c.requires.1 c.loop-j.j c.loop-j-test.true).1

pub loop-j-preserved : goal.loop-j-preserved
unfolding both
loop-j-preserved c =
    mapping_next c.loop-j.invariant
    c.requires.0
    c.loop-j-test.true
    (c.bend.ensures ∙ rw (
      c.key.ensures,
      c.moved-b.ensures.0,
      c.moved-a.ensures.0,
      c.low.ensures,
      c.high.ensures.0,
      c.key_in-k.ensures.0,
      c.code_in.ensures.0,
    ))
