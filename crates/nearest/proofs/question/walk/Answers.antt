use Prim.Native.Nat.{◌<◌}
use native.Mathlib.Omega.{arith}
use Rattle.std.proofs.Common.{sym, ◌∙◌, length}
use Rattle.nearest.specs.Order.{firsts}
use Rattle.nearest.proofs.Seeking.{first_at, firsts_length}
use Rattle.nearest.proofs.Spans.{ends_climb}
use Rattle.nearest.proofs.Columns.{walk_short, walk_end, walk_none, walk_first, walk_hit, walk_miss}
use Rattle.nearest.proofs.question.walk.Goals.{then-spans-i+else-not-last, else-spans-i}
use Rattle.nearest.proofs.question.walk.Goals as goal

pub returns-then-bottom-top : goal.returns-then-bottom-top
returns-then-bottom-top c =
    let whole = walk_short c.requires.tables c.requires.rows.0 c.requires.rows.1 c.if-bottom-top.true in
    record { first = whole.0; last = whole.1 }

pub seek_from-i-requires : goal.seek_from-i-requires
seek_from-i-requires c =
    record { climbs = ends_climb _ _ c.requires.tables; behind = rw c.address-a.ensures c.loop-row.invariant.passed }

pub returns-then-i-spans : goal.returns-then-i-spans
returns-then-i-spans c =
    let whole =
    walk_none c.requires.tables c.requires.rows.0 c.loop-row.invariant c.loop-row-test.true c.address-a.ensures c.seek_from-i.ensures (c.if-i-spans.true ∙ sym (firsts_length c.args.spans.now)) in
    record { first = whole.0; last = whole.1 }

pub returns-then-not-last : goal.returns-then-not-last
returns-then-not-last c =
    let whole =
    walk_first c.requires.tables c.requires.rows.0 c.loop-row.invariant c.loop-row-test.true c.address-a.ensures c.seek_from-i.ensures c.if-not-last.true
    (omega (arith, c.if-i-spans.false, c.seek_from-i.ensures.upto, c.requires.tables.size, firsts_length c.args.spans.now)) (rw (← first_at c.args.spans.now c.seek_from-i.result) at c.if-spans-i.true) in
    record { first = whole.0; last = whole.1 }

pub loop-row-preserved : goal.loop-row-preserved
loop-row-preserved c =
    let k : c.seek_from-i.result < length (firsts c.args.spans.now) = omega (arith, c.if-i-spans.false, c.seek_from-i.ensures.upto, c.requires.tables.size, firsts_length c.args.spans.now) in
    let at = first_at c.args.spans.now c.seek_from-i.result in
    elim c.if-spans-i.branch [
      | then-spans-i+else-not-last w ↦ rw w.found-is (walk_hit c.requires.tables c.requires.rows.0 c.loop-row.invariant c.loop-row-test.true c.address-a.ensures c.seek_from-i.ensures k (rw (← at) at c.max-row.ensures) w.if-not-last.false (rw (← at) at w.if-spans-i.true))
      | else-spans-i w ↦ rw w.found-is (walk_miss c.requires.tables c.requires.rows.0 c.loop-row.invariant c.loop-row-test.true c.address-a.ensures c.seek_from-i.ensures k (rw (← at) at c.max-row.ensures) (omega (arith, w.if-spans-i.false, at)))
    ]

pub returns : goal.returns
returns c =
    let whole =
    walk_end c.requires.tables c.requires.rows.0 c.loop-row.invariant c.requires.rows.1 (omega (arith, c.loop-row-test.false)) in
    record { first = whole.0; last = whole.1 }
