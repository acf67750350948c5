-- The laws of Spans.antt, with what `seek` found among the last cells.
use Rattle.std.proofs.Common.{refl, ◌<◌, length, arith}
use Rattle.nearest.specs.Order.{firsts}
use Rattle.nearest.proofs.Seeking.{first_at, firsts_length}
use Rattle.nearest.proofs.Spans.{right_none, right_hit}
use Rattle.nearest.proofs.question.to_right.Goals as goal

pub returns-then-i-spans : goal.returns-then-i-spans
returns-then-i-spans c =
    let (p, q, row, column) = c.requires.cells in
    right_none _ _ c.requires.tables.0 c.args.p c.args.q row p.1 q.1 (omega arith) c.address.result _ c.seek-i.result c.address.ensures refl c.seek-i.ensures (λ h. absurd (omega (arith, firsts_length c.args.spans.now)))

pub returns-then-spans-i : goal.returns-then-spans-i
returns-then-spans-i c =
    let (p, q, row, column) = c.requires.cells in
    right_none _ _ c.requires.tables.0 c.args.p c.args.q row p.1 q.1 (omega arith) c.address.result c.address-2.result c.seek-i.result c.address.ensures
    c.address-2.ensures c.seek-i.ensures (λ h. omega (arith, first_at c.args.spans.now c.seek-i.result, c.if-spans-i.true))

pub returns : goal.returns
returns c =
    let O = c.requires.tables.0 in
    let (p, q, row, column) = c.requires.cells in
    let t = c.args.spans.now in
    let i = c.seek-i.result in
    let k : i < length (firsts t) = omega (arith, c.if-i-spans.false, c.seek-i.ensures.upto, O.size, firsts_length t) in
    right_hit _ _ O c.args.p c.args.q row p.1 q.1 column c.address.result c.address-2.result i c.address.ensures c.address-2.ensures
    c.seek-i.ensures k (omega (arith, first_at t i, c.if-spans-i.false)) (c.requires.tables.1 i k)
