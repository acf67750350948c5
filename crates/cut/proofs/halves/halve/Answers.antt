-- The cut's bend taken out, the others parted, and each half renumbered.
use mathlib.Core.Path.{◌≡◌, ap, sym, ◌∙◌}
use Prim.Native.Nat.{ℕ, ◌-◌}
use native.Mathlib.Omega.{arith}
use lib.ListN.{length, take}
use Rattle.lists.proofs.Lists.{all_mem}
use Rattle.polygon.specs.Polygon.{◌—◌, Diagonal}
use Rattle.edit.specs.Tables.{Whole}
use Rattle.edit.proofs.InHand.{in_whole, Without, taken_out}
use Rattle.sheet.specs.Hand.{part_of}
use Rattle.cut.specs.Cut.{inner_part, rest_part}
use Rattle.cut.specs.Tables.{rest_bends}
use Rattle.cut.proofs.Holding.{Holds, inner_movable, rest_movable, inner_holds, rest_holds}
use Rattle.cut.proofs.halves.halve.Goals.{After-bends-bends, After-remove-left, After-split-i, After-head_on, After-head_on-2}
use Rattle.cut.proofs.halves.halve.Goals as goal

hand : (c : After-bends-bends) → Whole c.args.part.now c.head-h.result c.bends-bends.result.now
hand c = in_whole c.head-h.ensures.valid c.head-h.ensures.corners c.head-h.ensures.angles c.bends-bends.ensures.part c.bends-bends.ensures.all

diagonal : (c : After-bends-bends) → Diagonal c.args.part.now.n (c.args.a — c.args.b)
diagonal c = all_mem c.head-h.ensures.valid.triangulated.diagonals c.requires.part

-- the bends without the cut's
out : (c : After-remove-left) → Whole c.args.part.now c.head-h.result c.bends-bends.result.now
    → Without c.head-h.result c.bends-bends.result.now (c.args.a — c.args.b) (take c.remove-left.result c.remove-left.new.out)
out c H = taken_out H (c.args.a — c.args.b) (rw H.same at c.requires.part) c.key.ensures c.remove-left.ensures.0

-- of these the rest's, where there are as many others as were counted
rest : (c : After-split-i) → c.remove-left.result ≡ length (take c.remove-left.result c.remove-left.new.out)
    → take (c.remove-left.result - c.split-i.result) c.split-i.new.outside ≡ rest_bends (c.args.a — c.args.b) (take c.remove-left.result c.remove-left.new.out)
rest c counted = ap (λ (k : ℕ). take (k - c.split-i.result) c.split-i.new.outside) counted ∙ c.split-i.ensures.second.0

count : (c : After-remove-left) → c.remove-left.result ≡ length (take c.remove-left.result c.remove-left.new.out)
count c = c.remove-left.ensures.1 ∙ ap length (sym c.remove-left.ensures.0)

-- the two halves
one : (c : After-head_on) → Whole c.args.part.now c.head-h.result c.bends-bends.result.now → Without c.head-h.result c.bends-bends.result.now (c.args.a — c.args.b) (take c.remove-left.result c.remove-left.new.out)
    → Holds (inner_part (c.args.a — c.args.b) c.args.part.now) (part_of c.head_on.result c.renumber.new.out)
one c H W = rw c.head_on.ensures (inner_holds H W _ (rw c.split-i.ensures.first.0 at c.renumber.ensures))

other : (c : After-head_on-2) → Whole c.args.part.now c.head-h.result c.bends-bends.result.now → Without c.head-h.result c.bends-bends.result.now (c.args.a — c.args.b) (take c.remove-left.result c.remove-left.new.out)
    → take (c.remove-left.result - c.split-i.result) c.split-i.new.outside ≡ rest_bends (c.args.a — c.args.b) (take c.remove-left.result c.remove-left.new.out)
    → Holds (rest_part (c.args.a — c.args.b) c.args.part.now) (part_of c.head_on-2.result c.renumber-2.new.out)
other c H W R = rw c.head_on-2.ensures (rest_holds H W _ (rw R at c.renumber-2.ensures))

pub key-requires : goal.key-requires
key-requires c = let d = diagonal (goal.at.key-requires c).After-bends-bends in omega (arith, d.forth, d.corner, c.head-h.ensures.valid.most)

pub overflow_sub-b : goal.overflow_sub-b
overflow_sub-b c = let d = diagonal (goal.at.overflow_sub-b c).After-bends-bends in omega (arith, d.forth)

pub overflow_sub-b-2 : goal.overflow_sub-b-2
overflow_sub-b-2 c = let d = diagonal (goal.at.overflow_sub-b-2 c).After-bends-bends in omega (arith, d.forth)

pub overflow_sub-b-3 : goal.overflow_sub-b-3
overflow_sub-b-3 c = let d = diagonal (goal.at.overflow_sub-b-3 c).After-bends-bends in omega (arith, d.forth)

pub overflow_sub-h : goal.overflow_sub-h
overflow_sub-h c = let d = diagonal (goal.at.overflow_sub-h c).After-bends-bends in omega (arith, d.forth, d.corner, c.head-h.ensures.corners)

pub renumber-requires : goal.renumber-requires
renumber-requires c =
    let H = hand (goal.at.renumber-requires c).After-bends-bends in
    let W = out (goal.at.renumber-requires c).After-remove-left H in
    rw c.split-i.ensures.first.0 (omega (arith, c.split-i.ensures.second.1, c.split-i.ensures.first.1, W.size, H.valid.most), inner_movable H W)

pub renumber-requires-2 : goal.renumber-requires-2
renumber-requires-2 c =
    let H = hand (goal.at.renumber-requires-2 c).After-bends-bends in
    let W = out (goal.at.renumber-requires-2 c).After-remove-left H in
    rw (rest (goal.at.renumber-requires-2 c).After-split-i (count (goal.at.renumber-requires-2 c).After-remove-left))
    (omega (arith, c.split-i.ensures.second.1, W.size, H.valid.most), rest_movable H W)

pub new-inner-requires : goal.new-inner-requires
new-inner-requires c =
    let H = hand (goal.at.new-inner-requires c).After-bends-bends in
    (one (goal.at.new-inner-requires c).After-head_on H (out (goal.at.new-inner-requires c).After-remove-left H)).valid

pub new-rest-requires : goal.new-rest-requires
new-rest-requires c =
    let H = hand (goal.at.new-rest-requires c).After-bends-bends in
    let R = rest (goal.at.new-rest-requires c).After-split-i (count (goal.at.new-rest-requires c).After-remove-left) in
    (other (goal.at.new-rest-requires c).After-head_on-2 H (out (goal.at.new-rest-requires c).After-remove-left H) R).valid

pub returns-clause-inner : goal.returns-clause-inner
returns-clause-inner c =
    let H = hand (goal.at.returns-clause-inner c).After-bends-bends in
    c.new-inner.ensures ∙ (one (goal.at.returns-clause-inner c).After-head_on H (out (goal.at.returns-clause-inner c).After-remove-left H)).same

pub returns-clause-rest : goal.returns-clause-rest
returns-clause-rest c =
    let H = hand (goal.at.returns-clause-rest c).After-bends-bends in
    let R = rest (goal.at.returns-clause-rest c).After-split-i (count (goal.at.returns-clause-rest c).After-remove-left) in
    c.new-rest.ensures ∙ (other (goal.at.returns-clause-rest c).After-head_on-2 H (out (goal.at.returns-clause-rest c).After-remove-left H) R).same
