-- The answer says where the sheet lies afterwards.
use Rattle.edit_list.specs.Script.{edit_at}
use Rattle.edit_list.specs.Steps.{desk_in, Lent}
use Rattle.edit_list.proofs.Desks.{taken, stays}
use Rattle.edit_list.proofs.Desk.step.Goals.{After-lend}
use Rattle.edit_list.proofs.Desk.step.Goals as goal

-- the edit of the list is done
lent : (c : After-lend) → let s = c.args.self.now in Lent s.first.now (desk_in s) (edit_at c.args.bytes.now 0) c.lend.result c.lend.new.front c.lend.new.back
lent c = rw c.edit_in-e.ensures at c.lend.ensures

pub returns-in_err-size-clause-desk : goal.returns-in_err-size-clause-desk
returns-in_err-size-clause-desk c =
    let s = c.args.self.now in
    (stays s.first.now s.left s.front.now s.back.now _ (lent (goal.at.returns-in_err-size-clause-desk c).After-lend) c.in_err-size.was).0

pub returns-clause-desk : goal.returns-clause-desk
returns-clause-desk c =
    let s = c.args.self.now in
    (taken s.first.now s.left s.front.now s.back.now _ (lent (goal.at.returns-clause-desk c).After-lend) c.in_ok-size.was _ c.other.ensures).0
