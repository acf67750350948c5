-- Raised, and the seam merged in.
use native.Mathlib.Omega.{arith}
use Rattle.edit.proofs.InHand.{whole_count}
use Rattle.seam.proofs.Sewing.{second_raisable, laid_done}
use Rattle.seam.proofs.halves.lay.Goals as goal

pub raise-requires : goal.raise-requires
raise-requires c =
    let Q = c.requires.part in
    let n = whole_count c.args.g c.args.second.now Q in
    (omega (arith, Q.most), omega (arith, c.requires.sizes, Q.least), second_raisable c.args.g c.args.second.now Q c.args.side c.requires.sizes.0)

pub returns : goal.returns
returns c =
    let Q = c.requires.part in
    laid_done c.args.g c.args.second.now Q c.args.side c.requires.sizes.0 c.raise.new.out c.merge.new.out c.raise.ensures
    (omega (arith, c.bend.ensures, c.key.ensures, Q.least)) c.merge.ensures
