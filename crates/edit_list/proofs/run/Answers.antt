-- The tests in their order, by the laws of Tests.antt; then all edits.
use native.Mathlib.Omega.{arith}
use lib.ListN.{length}
use Rattle.edit_list.specs.Script.{Kinds}
use Rattle.edit_list.proofs.Tests.{fault_kind, fault_length, fault_none, fault_room, fault_short}
use Rattle.edit_list.proofs.Following.{ran_model}
use Rattle.edit_list.proofs.Running.{result_refused, result_done}
use Rattle.edit_list.proofs.run.Goals.{Else-not-kinds_known}
use Rattle.edit_list.proofs.run.Goals as goal

known : (c : Else-not-kinds_known) → Kinds c.args.list.now
known c = c.kinds_known.ensures.0 c.if-not-kinds_known.false

pub returns-then-list-ne0-clause-answer : goal.returns-then-list-ne0-clause-answer
returns-then-list-ne0-clause-answer c =
    result_refused c.args.first.now c.args.list.now c.args.front.now c.args.back.now c.args.numbers.now 32 (fault_length _ _ _ _ c.if-list-ne0.true) (omega arith)

pub returns-then-not-kinds_known-clause-answer : goal.returns-then-not-kinds_known-clause-answer
returns-then-not-kinds_known-clause-answer c =
    result_refused c.args.first.now c.args.list.now c.args.front.now c.args.back.now c.args.numbers.now 33 (fault_kind _ _ _ _ (omega arith) (c.kinds_known.ensures.1 c.if-not-kinds_known.true)) (omega arith)

pub returns-then-numbers-list-clause-answer : goal.returns-then-numbers-list-clause-answer
returns-then-numbers-list-clause-answer c =
    let k = known (goal.at.returns-then-numbers-list-clause-answer c).Else-not-kinds_known in
    result_refused c.args.first.now c.args.list.now c.args.front.now c.args.back.now c.args.numbers.now 34 (fault_short _ _ _ _ (omega arith) k c.if-numbers-list.true) (omega arith)

pub returns-then-not-rooms_fit-clause-answer : goal.returns-then-not-rooms_fit-clause-answer
returns-then-not-rooms_fit-clause-answer c =
    let k = known (goal.at.returns-then-not-rooms_fit-clause-answer c).Else-not-kinds_known in
    result_refused c.args.first.now c.args.list.now c.args.front.now c.args.back.now c.args.numbers.now 35 (fault_room _ _ _ _ (omega arith) k (omega arith) (c.rooms_fit.ensures.1 c.if-not-rooms_fit.true)) (omega arith)

pub returns : goal.returns
returns c =
    let k = known (goal.at.returns c).Else-not-kinds_known in
    let fits = c.rooms_fit.ensures.0 c.if-not-rooms_fit.false in
    let none = fault_none c.args.list.now (length c.args.front.now) (length c.args.back.now) (length c.args.numbers.now) (omega (arith, c.if-list-ne0.false)) k (omega (arith, c.if-numbers-list.false)) fits in
    let q = result_done c.args.first.now c.args.list.now c.args.front.now c.args.back.now c.args.numbers.now c.run_all.result c.run_all.new.front c.run_all.new.back c.run_all.new.numbers none c.run_all.ensures.desk c.run_all.ensures.numbers in
    record { answer = q; model = ran_model c.args.first.now c.args.list.now c.args.front.now c.args.back.now c.args.numbers.now _ q }
