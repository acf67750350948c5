-- Renumbered, and the new diagonal put in at 0.
use mathlib.Core.Path.{ap, sym, ◌∙◌}
use native.Mathlib.Omega.{arith}
use Rattle.sheet.specs.Sheet.{held}
use Rattle.edit.specs.Tables.{Whole}
use Rattle.edit.proofs.InHand.{in_whole, bends_count}
use Rattle.edit.proofs.Adding.{add_outside, add_full, can_rise, added}
use Rattle.edit.proofs.held.add_to.Goals.{After-bends-bends}
use Rattle.edit.proofs.held.add_to.Goals as goal

hand : (c : After-bends-bends) → Whole c.args.part.now c.head-h.result c.bends-bends.result.now
hand c = in_whole c.head-h.ensures.valid c.head-h.ensures.corners c.head-h.ensures.angles c.bends-bends.ensures.part c.bends-bends.ensures.all

pub returns-then-side-h : goal.returns-then-side-h
returns-then-side-h c = sym (add_outside c.args.part.now c.args.side (omega (arith, c.head-h.ensures.corners)))

pub returns-then-h-eq-CORNERS : goal.returns-then-h-eq-CORNERS
returns-then-h-eq-CORNERS c = sym (add_full c.args.part.now c.args.side (omega (arith, c.head-h.ensures.corners)) (sym c.head-h.ensures.corners ∙ c.if-h-eq-CORNERS.true))

pub renumber-requires : goal.renumber-requires
renumber-requires c =
    let H = hand (goal.at.renumber-requires c).After-bends-bends in
    (omega (arith, bends_count H, H.valid.most), can_rise H c.args.side (omega arith) c.if-h-eq-CORNERS.false)

pub new-requires : goal.new-requires
new-requires c =
    let H = hand (goal.at.new-requires c).After-bends-bends in
    (added H c.args.side (omega arith) c.if-h-eq-CORNERS.false c.renumber.new.out c.renumber.ensures c.entering_bend.ensures c.merge.new.out c.merge.ensures).valid

pub returns : goal.returns
returns c =
    let H = hand (goal.at.returns c).After-bends-bends in
    ap held c.new.ensures
    ∙ sym (added H c.args.side (omega arith) c.if-h-eq-CORNERS.false c.renumber.new.out c.renumber.ensures c.entering_bend.ensures c.merge.new.out c.merge.ensures).same
