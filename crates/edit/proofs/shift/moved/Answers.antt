-- By the two ways and the test.
use mathlib.Core.Path.{sym}
use native.Mathlib.Decide.{dec_lt}
use native.Mathlib.Omega.{arith}
use Rattle.lists.proofs.Lists.{choose_no, choose_yes}
use Rattle.edit.specs.declared.shift.Shift.TheVariants.{Up, Down}
use Rattle.edit.specs.Tables.{Movable}
use Rattle.edit.proofs.shift.moved.Goals.{In-Down, In-Up}
use Rattle.edit.proofs.shift.moved.Goals as goal

up : (c : In-Up) → Movable (Up c.in-Up.at c.in-Up.by) c.args.x
up c = rw c.in-Up.is at c.requires

down : (c : In-Down) → Movable (Down c.in-Down.at c.in-Down.by) c.args.x
down c = rw c.in-Down.is at c.requires

pub returns-then-x-at : goal.returns-then-x-at
returns-then-x-at c = rw c.in-Up.is (sym (choose_yes (dec_lt _ _) c.args.x c.if-x-at.true), (up (goal.at.returns-then-x-at c).In-Up).1 c.if-x-at.true)

pub returns-else-x-at : goal.returns-else-x-at
returns-else-x-at c = rw c.in-Up.is (sym (choose_no (dec_lt _ _) _ (λ h. omega arith)), (up (goal.at.returns-else-x-at c).In-Up).0)

pub returns-then-x-at-2 : goal.returns-then-x-at-2
returns-then-x-at-2 c = rw c.in-Down.is (sym (choose_yes (dec_lt _ _) c.args.x c.if-x-at-2.true), omega (arith, (down (goal.at.returns-then-x-at-2 c).In-Down).0))

pub returns-else-x-at-2 : goal.returns-else-x-at-2
returns-else-x-at-2 c = rw c.in-Down.is (sym (choose_no (dec_lt _ _) _ (λ h. omega arith)), (down (goal.at.returns-else-x-at-2 c).In-Down).0)
