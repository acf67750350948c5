-- A triangle is joined from its two sides; a side has its values.
use mathlib.Core.Path.{◌∙◌}
use native.Mathlib.Omega.{arith}
use Prim.Native.Nat.{◌+◌, ◌<◌}
use Rattle.tree.proofs.Pieces.{Parts, corners, opened, one_piece}
use Rattle.levels.specs.Kept.{PartsHeld}
use Rattle.levels.proofs.Joining.{stored_grows, stored_deep, side_deep, ear_held}
use Rattle.levels.proofs.ear.Goals.{Start}
use Rattle.levels.proofs.ear.Goals as goal

-- the two parts, if the piece is no side
parts : (c : Start) → let p = c.args.p in (p.u + 1 < p.v) → Parts c.args.tree.now p.e p.u p.v c.requires.shown.tree
parts c h = opened c.requires.shown.shows h

held : (c : Start) → let p = c.args.p in (h : p.u + 1 < p.v) → PartsHeld c.args.tree.now c.args.depths.now p.e (parts c h).l (parts c h).r
held c h = ear_held (rw (parts c h).is at c.requires.shown.shows) c.requires.little c.requires.sides

pub overflow_add-p : goal.overflow_add-p
overflow_add-p c = omega (arith, corners c.requires.shown.shows)

pub join_at-requires : goal.join_at-requires
join_at-requires c = rw c.from.ensures (_, _, held (goal.at.join_at-requires c).Start c.if-p.true)

pub returns-then-p-clause-grows : goal.returns-then-p-clause-grows
returns-then-p-clause-grows c =
    let H = held (goal.at.returns-then-p-clause-grows c).Start c.if-p.true in
    stored_grows H c.requires.room _ ((rw c.from.ensures at c.join_at.ensures) _ _ H)

pub returns-then-p-clause-deep : goal.returns-then-p-clause-deep
returns-then-p-clause-deep c =
    let h = c.if-p.true in
    let H = held (goal.at.returns-then-p-clause-deep c).Start h in
    λ t s. rw (one_piece s c.requires.shown.shows ∙ (parts (goal.at.returns-then-p-clause-deep c).Start h).is) (stored_deep H c.requires.room _ ((rw c.from.ensures at c.join_at.ensures) _ _ H))

pub returns-else-p-clause-deep : goal.returns-else-p-clause-deep
returns-else-p-clause-deep c = λ t s. side_deep s c.if-p.false c.requires.sides
