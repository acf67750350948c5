-- The first half renumbered, and merged with the second and the seam.
use native.Mathlib.Omega.{arith}
use Rattle.edit.proofs.InHand.{whole_count}
use Rattle.seam.proofs.Sewing.{first_movable, glued_done}
use Rattle.seam.proofs.halves.sew.Goals as goal

pub renumber-requires : goal.renumber-requires
renumber-requires c =
    let (P, Q) = c.requires.halves in
    let n = whole_count c.args.h c.args.first.now P in
    (omega (arith, P.most), first_movable c.args.h c.args.g c.args.first.now c.args.second.now P Q c.args.side c.requires.sizes.0)

pub returns : goal.returns
returns c =
    let (P, Q) = c.requires.halves in
    glued_done c.args.h c.args.g c.args.first.now c.args.second.now P Q c.args.side c.requires.sizes.0 c.renumber.new.out c.lay.new.out c.merge.new.out
    c.renumber.ensures c.lay.ensures c.merge.ensures
