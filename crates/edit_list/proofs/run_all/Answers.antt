-- One edit after another.
use mathlib.Core.Path.{◌≡◌, refl, sym, ap, ◌∙◌}
use mathlib.Core.List.{List}
use Prim.Native.Nat.{ℕ, ◌<◌, ◌≤◌}
use native.Mathlib.Omega.{arith}
use lib.ListN.{length}
use Rattle.std.proofs.Common.{rules}
use Rattle.std.proofs.lemmas.List.{length_push}
use Rattle.std.proofs.lemmas.Iterator.Consumers.{YieldsList-from_enumerate, YieldsList-turn, YieldsList-end}
use Rattle.edit_list.specs.declared.Left.{Left}
use Rattle.edit_list.specs.Script.{count, edit_at}
use Rattle.edit_list.specs.Desk.{Desk}
use Rattle.edit_list.specs.Steps.{desk_by, desk_in, number_after}
use Rattle.edit_list.proofs.Pieces.{yields_pieces, piece, piece_edit, piece_number, pair_at, length_numbered}
use Rattle.edit_list.proofs.Running.{running_begin, edit_spacious, running_next, running_desk, running_outs}
use Rattle.edit_list.proofs.run_all.Goals.{In-Some, In-None, Joined-step, in-Ok, in-Err}
use Rattle.edit_list.proofs.run_all.Goals as goal

-- which edit the loop is at
turn : (c : In-Some) → (length c.loop-i.yielded < count c.args.list.now) × (c.in-Some.i ≡ length c.loop-i.yielded) × (c.in-Some.bytes.now ≡ piece c.args.list.now (length c.loop-i.yielded))
turn c = pair_at c.args.list.now (length c.loop-i.yielded) (YieldsList-turn (YieldsList-from_enumerate (yields_pieces c.args.list.now (cc) (cc)) (cc)) c.loop-i.yielded _ c.loop-i.yielded_by _ _ (c.in-Some.i, c.in-Some.bytes) c.in-Some.is c.next.ensures.steps)

-- its number
joined : (c : Joined-step) → c.match-step.number ≡ number_after c.step.result
joined c = elim c.match-step.branch [
  | in-Ok w ↦ rw (w.in-Ok.is, w.number-is)
  | in-Err w ↦ rw (w.in-Err.is, w.number-is, w.from-number.ensures) w.number.ensures.number
]

pub loop-i-init : goal.loop-i-init
loop-i-init c = (refl, refl, refl, running_begin c.args.first.now c.args.list.now c.args.front.now c.args.back.now c.args.numbers.now)

pub step-requires-clause-room : goal.step-requires-clause-room
unfolding edit_at
step-requires-clause-room c =
    let t = turn (goal.at.step-requires-clause-room c).In-Some in
    let d = c.loop-i.desk in
    rw (t.2, piece_number c.args.list.now (length c.loop-i.yielded) 9 (omega arith))
    (edit_spacious c.args.first.now c.args.list.now c.args.front.now c.args.back.now c.args.numbers.now c.requires.rooms (desk_in d) c.loop-i.numbers (length c.loop-i.yielded) c.loop-i.invariant.3 t.0)

pub loop-i-preserved : goal.loop-i-preserved
loop-i-preserved c =
    let t = turn (goal.at.loop-i-preserved c).In-Some in
    let J = joined (goal.at.loop-i-preserved c).Joined-step in
    let j = length c.loop-i.yielded in
    let d = desk_in c.loop-i.desk in
    let x : edit_at c.in-Some.bytes.now 0 ≡ edit_at c.args.list.now j = ap (λ (b : List ℕ). edit_at b 0) t.2 ∙ piece_edit c.args.list.now j in
    let e = c.step.new.self in
    let same : c.loop-i.desk.first.now ≡ c.args.first.now = c.loop-i.invariant.0 in (
      c.step.ensures.same_first ∙ same,
      c.loop-i.invariant.1 ∙ sym c.step.ensures.same_front,
      c.loop-i.invariant.2 ∙ sym c.step.ensures.same_back,
      rw (length_push c.loop-i.yielded (c.in-Some.i, c.in-Some.bytes))
          (running_next c.args.first.now c.args.list.now c.args.front.now c.args.back.now c.args.numbers.now c.requires.rooms d c.loop-i.numbers j c.loop-i.invariant.3 t.0
          (desk_in e) c.match-step.number c.put16.new.s
          (rw (same, x) at c.step.ensures.desk)
          (J ∙ rw (same, x) at c.step.ensures.number)
          (rw t.1 at c.put16.ensures)),
    )

-- the desk by the buffers as they are left
same_desk : (l : Left) {front back f b : List ℕ} {d : Desk} → f ≡ front → b ≡ back → desk_by l front back ≡ d → desk_by l f b ≡ d
same_desk l p q e = (λ i. desk_by l (p i) (q i)) ∙ e

-- how many edits were done
all_done : (c : In-None) → count c.args.list.now ≤ length c.loop-i.yielded
all_done c =
    let e = YieldsList-end (YieldsList-from_enumerate (yields_pieces c.args.list.now (cc) (cc)) (cc)) c.loop-i.yielded _ c.loop-i.yielded_by _ _ c.in-None.is c.next.ensures.steps in
    omega (arith, e.1, length_numbered (count c.args.list.now) 0 c.args.list.now)

pub returns-clause-desk : goal.returns-clause-desk
returns-clause-desk c =
    let n = all_done (goal.at.returns-clause-desk c).In-None in
    let d = desk_in c.loop-i.desk in
    same_desk c.loop-i.desk.left (search rules) (search rules)
    (running_desk c.args.first.now c.args.list.now c.args.front.now c.args.back.now c.args.numbers.now d c.loop-i.numbers (length c.loop-i.yielded) c.loop-i.invariant.3 n)

pub returns-clause-numbers : goal.returns-clause-numbers
returns-clause-numbers c =
    let n = all_done (goal.at.returns-clause-numbers c).In-None in
    let d = desk_in c.loop-i.desk in
    running_outs c.args.first.now c.args.list.now c.args.front.now c.args.back.now c.args.numbers.now d c.loop-i.numbers (length c.loop-i.yielded) c.loop-i.invariant.3 n c.requires.numbers
