-- The ear's diagonal taken out, and the rest renumbered.
use mathlib.Core.Path.{◌≡◌, ap, sym, ◌∙◌}
use mathlib.Core.Bool.{◌&&◌}
use Prim.Native.Nat.{◌-◌}
use native.Mathlib.Omega.{arith}
use lib.Dec.{ltb}
use lib.ListN.{take}
use Rattle.keys.specs.Keys.{edges_of}
use Rattle.sheet.specs.Sheet.{held}
use Rattle.edit.specs.Rules.{remove_ear, neighbours}
use Rattle.edit.proofs.Rule.{Takes}
use Rattle.edit.specs.Tables.{Whole, whole}
use Rattle.edit.proofs.InHand.{in_whole, Without}
use Rattle.edit.proofs.Removing.{remove_outside, remove_triangle, remove_no_ear, ear_out, can_fall, shrunk, ear_angles}
use Rattle.edit.proofs.held.remove_from.Goals.{After-bends-bends, Else-not-is_ear, After-remove-left, Joined-h, then-h, else-h}
use Rattle.edit.proofs.held.remove_from.Goals as goal

hand : (c : After-bends-bends) → Whole c.args.part.now c.head-h.result c.bends-bends.result.now
hand c = in_whole c.head-h.ensures.valid c.head-h.ensures.corners c.head-h.ensures.angles c.bends-bends.ensures.part c.bends-bends.ensures.all

-- the tests are passed
takes : (c : Else-not-is_ear) → Whole c.args.part.now c.head-h.result c.bends-bends.result.now → edges_of c.keys-keys.result.now ≡ c.args.part.now.ds
    → Takes (remove_ear c.args.corner) (whole c.head-h.result c.bends-bends.result.now)
takes c H same = (omega arith, c.if-h-eq3.false, rw (same, H.same) at (c.is_ear.ensures.yes c.if-not-is_ear.false))

-- the bends without the one of the ear's diagonal
ear : (c : After-remove-left) → Whole c.args.part.now c.head-h.result c.bends-bends.result.now → Takes (remove_ear c.args.corner) (whole c.head-h.result c.bends-bends.result.now)
    → Without c.head-h.result c.bends-bends.result.now (neighbours c.head-h.result.n c.args.corner) (take c.remove-left.result c.remove-left.new.out)
ear c H taken = ear_out H c.args.corner taken c.neighbours-a.ensures.0 c.key.ensures c.remove-left.ensures.0

-- a triangle has no angles
angles : (c : Joined-h) → c.if-h.shrunk ≡ (c.head-h.result.angled && ltb 3 (c.head-h.result.n - 1))
angles c = elim c.if-h.branch [
  | then-h w ↦ rw (w.shrunk-is, w.if-h.true) (ear_angles c.head-h.result.n)
  | else-h w ↦ rw (w.shrunk-is, w.if-h.false)
]

pub returns-then-corner-h : goal.returns-then-corner-h
returns-then-corner-h c = sym (remove_outside c.args.part.now c.args.corner (omega (arith, c.head-h.ensures.corners)))

pub returns-then-h-eq3 : goal.returns-then-h-eq3
returns-then-h-eq3 c = sym (remove_triangle c.args.part.now c.args.corner (omega (arith, c.head-h.ensures.corners)) (sym c.head-h.ensures.corners ∙ c.if-h-eq3.true))

pub returns-then-not-is_ear : goal.returns-then-not-is_ear
returns-then-not-is_ear c =
    sym (remove_no_ear c.args.part.now c.args.corner (omega (arith, c.head-h.ensures.corners)) (λ e. c.if-h-eq3.false (c.head-h.ensures.corners ∙ e)) (λ a. c.is_ear.ensures.no c.if-not-is_ear.true (rw c.keys-keys.ensures a)))

pub renumber-requires : goal.renumber-requires
renumber-requires c =
    let H = hand (goal.at.renumber-requires c).After-bends-bends in
    let t = takes (goal.at.renumber-requires c).Else-not-is_ear H c.keys-keys.ensures in
    let W = ear (goal.at.renumber-requires c).After-remove-left H t in
    (omega (arith, W.size, H.valid.most), can_fall H c.args.corner t W)

pub new-requires : goal.new-requires
new-requires c =
    let H = hand (goal.at.new-requires c).After-bends-bends in
    let t = takes (goal.at.new-requires c).Else-not-is_ear H c.keys-keys.ensures in
    let W = ear (goal.at.new-requires c).After-remove-left H t in
    (shrunk H c.args.corner t W c.renumber.new.out c.renumber.ensures (angles (goal.at.new-requires c).Joined-h)).valid

pub returns : goal.returns
returns c =
    let H = hand (goal.at.returns c).After-bends-bends in
    let t = takes (goal.at.returns c).Else-not-is_ear H c.keys-keys.ensures in
    let W = ear (goal.at.returns c).After-remove-left H t in
    ap held c.new.ensures ∙ sym (shrunk H c.args.corner t W c.renumber.new.out c.renumber.ensures (angles (goal.at.returns c).Joined-h)).same
