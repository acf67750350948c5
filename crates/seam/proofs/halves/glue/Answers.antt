-- Refused by 9 or by 10, or both halves merged.
use mathlib.Core.Path.{◌≡◌, ap, sym, ◌∙◌}
use mathlib.Core.Bool.{◌||◌}
use Prim.Native.Nat.{◌-◌}
use native.Mathlib.Omega.{arith}
use lib.ListN.{take}
use Rattle.sheet.specs.Sheet.{held}
use Rattle.seam.specs.Halves.{Half}
use Rattle.seam.proofs.Answers.{join_outside, join_many}
use Rattle.seam.proofs.Taken.{by_head, join_taken}
use Rattle.seam.proofs.halves.glue.Goals.{After-half_bends-of_second, Joined-h, then-h, else-h}
use Rattle.seam.proofs.halves.glue.Goals as goal

one : (c : After-half_bends-of_second) → Half c.args.first.now c.head-h.result (take (c.head-h.result.n - 3) c.half_bends-of_first.result)
one c = by_head c.half_bends-of_first.result c.head-h.ensures.corners c.head-h.ensures.angles c.half_bends-of_first.ensures

other : (c : After-half_bends-of_second) → Half c.args.second.now c.head-g.result (take (c.head-g.result.n - 3) c.half_bends-of_second.result)
other c = by_head c.half_bends-of_second.result c.head-g.ensures.corners c.head-g.ensures.angles c.half_bends-of_second.ensures

angles : (c : Joined-h) → c.if-h.joined ≡ (c.head-h.result.angled || c.head-g.result.angled)
angles c = elim c.if-h.branch [ then-h w ↦ rw (w.joined-is, w.if-h.true) | else-h w ↦ rw (w.joined-is, w.if-h.false) ]

pub returns-then-side-h : goal.returns-then-side-h
returns-then-side-h c = sym (join_outside c.args.side _ _ (omega (arith, c.head-h.ensures.corners, c.head-h.ensures.valid.least)))

pub returns-then-h-g : goal.returns-then-h-g
returns-then-h-g c = sym (join_many c.args.side _ _ (omega (arith, c.head-h.ensures.corners)) (omega (arith, c.head-h.ensures.corners, c.head-g.ensures.corners)))

pub new-requires : goal.new-requires
new-requires c =
    let P = one (goal.at.new-requires c).After-half_bends-of_second in
    let Q = other (goal.at.new-requires c).After-half_bends-of_second in
    (join_taken P Q c.args.side (omega arith, omega arith) (angles (goal.at.new-requires c).Joined-h) c.sew.new.out c.sew.ensures).valid

pub returns : goal.returns
returns c =
    let P = one (goal.at.returns c).After-half_bends-of_second in
    let Q = other (goal.at.returns c).After-half_bends-of_second in
    ap held c.new.ensures ∙ sym (join_taken P Q c.args.side (omega arith, omega arith) (angles (goal.at.returns c).Joined-h) c.sew.new.out c.sew.ensures).same
