use mathlib.Core.Path.{refl}
use Prim.Native.Nat.{ℕ}
use native.Mathlib.Omega.{arith}
use lib.ListN.{length-set}
use Rattle.tree.proofs.Pieces.{corners, opened, one_piece}
use Rattle.levels.proofs.Joining.{side_deep}
use Rattle.levels.proofs.Descending.{descending_begins, Halves, halves}
use Rattle.levels.proofs.+levels.Goals.{then-y, else-y, After-by_size-t}
use Rattle.levels.proofs.+levels.Goals as goal

pub loop-x-init : goal.loop-x-init
loop-x-init t c = let pre = c.requires in descending_begins c.args.tree.now c.args.depths.now c.args.path.now c.args.from c.args.p pre.shown.tree pre.shown.shows pre.sides pre.room.1 pre.room.2

pub overflow_add-x : goal.overflow_add-x
overflow_add-x t c = omega (arith, corners c.loop-x.invariant.shows)

-- the two parts of the piece reached
split : (t : ℕ) (c : After-by_size-t t) →
    Halves c.args.tree.now c.args.depths.now c.args.path.now c.args.from c.args.p c.loop-x.depths c.loop-x.path c.loop-x.x c.loop-x.k c.by_size-t.result
split t c =
    halves c.loop-x.invariant c.loop-x-test.true (omega (arith, c.requires.room.0)) c.«open».result c.by_size-t.result c.«open».ensures c.by_size-t.ensures

pub by_size-t-requires : goal.by_size-t-requires
by_size-t-requires t c = let d = opened c.loop-x.invariant.shows c.loop-x-test.true in rw c.«open».ensures (omega (arith, d), omega (arith, d))

pub levels-requires : goal.levels-requires
levels-requires t c =
    let H = split t (goal.at.levels-requires t c).After-by_size-t in
    let D = c.loop-x.invariant in
    (omega (arith, H, D, c.decreases), (record { tree = H.small; shows = H.shows_small }, ((omega (arith, H, D, c.requires.room.0), D.room, simp length-set D.path_room), D.leaves)))

pub ear-requires-clause-shown : goal.ear-requires-clause-shown
ear-requires-clause-shown t c = let H = split t (goal.at.ear-requires-clause-shown t c).After-by_size-t in record { tree = H.small; shows = H.shows_small }

pub loop-x-smaller : goal.loop-x-smaller
loop-x-smaller t c = let H = split t (goal.at.loop-x-smaller t c).After-by_size-t in omega (arith, H)

pub loop-x-preserved : goal.loop-x-preserved
loop-x-preserved t c =
    let H = split t (goal.at.loop-x-preserved t c).After-by_size-t in
    let D = c.loop-x.invariant in
    H.on c.if-y.depths c.if-y.path (elim c.if-y.branch [
      | then-y w ↦ let m = w.levels.ensures in rw (w.depths-is, w.path-is) (record { grows = m.grows; deep = m.deep H.small H.shows_small; kept = m.kept; room = m.room.0; path_room = m.room.1 })
      | else-y w ↦ let m = w.ear.ensures in rw (w.depths-is, w.path-is) (record { grows = m.grows; deep = m.deep H.small H.shows_small; kept = λ j q. refl; room = m.room; path_room = simp length-set D.path_room })
    ])

pub ascend-requires-clause-way : goal.ascend-requires-clause-way
ascend-requires-clause-way t c =
    -- the piece at the end of the way down is a side
    let D = c.loop-x.invariant in
    (_, _, record { e = _; t = D.t; passed = D.passed; deep = side_deep D.shows c.loop-x-test.false D.leaves })

pub returns-clause-deep : goal.returns-clause-deep
returns-clause-deep t c =
    let D = c.loop-x.invariant in
    λ x s. rw (one_piece s D.whole) (c.ascend.ensures.deep _ _ (record { e = _; t = D.t; passed = D.passed; deep = side_deep D.shows c.loop-x-test.false D.leaves }))
