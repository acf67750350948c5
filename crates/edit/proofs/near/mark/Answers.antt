use native.Mathlib.Omega.{arith}
use lib.ListN.{length-set}
use Rattle.lists.proofs.Places.{map_next}
use Rattle.keys.specs.Keys.{edge_of}
use Rattle.edit.proofs.Marking.{near_begin, near_marked, neighbour_joined}
use Rattle.edit.proofs.near.mark.Goals as goal

pub loop-key-init : goal.loop-key-init
loop-key-init c = (
  simp (length-set, length-set) c.requires.sizes.3,
  rw (c.neighbours-a.ensures.0)
      (near_begin c.args.n c.args.c c.args.near.now c.requires.sizes.0 c.requires.sizes.1 c.requires.sizes.2 c.requires.sizes.3 c.requires.fresh),
)

pub loop-key-preserved : goal.loop-key-preserved
loop-key-preserved c = (
  simp (length-set) c.loop-key.invariant.0,
  rw (map_next edge_of c.args.keys.now c.loop-key.key-index 0 c.loop-key-test.true, c.unwrap_or.ensures)
      (near_marked c.args.n c.args.c _ _ c.loop-key.near c.loop-key.invariant.1 (omega (arith, c.loop-key.invariant.0, c.requires.sizes.1)) c.neighbours-a.result.0
      (rw c.neighbours-a.ensures.0 (neighbour_joined c.args.n c.args.c _ c.requires.sizes.0 c.requires.sizes.2 (rw c.neighbours-a.ensures.0 at c.neighbours-a.ensures.1)))
      c.other_end.result c.other_end.ensures),
)
