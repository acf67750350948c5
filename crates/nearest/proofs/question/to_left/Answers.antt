-- The laws of Spans.antt, with what was found among the first cells.
use Rattle.std.proofs.Common.{rules, refl, ◌-◌, ltb, arith}
use Rattle.std.proofs.lemmas.List.Sorted.{IsPartitionPoint-from_clause}
use Rattle.nearest.specs.declared.Span.{Span}
use Rattle.nearest.specs.Order.{firsts, Cut}
use Rattle.nearest.proofs.Seeking.{climbs_parts, point_cut, last_at}
use Rattle.nearest.proofs.Spans.{starts_climb, left_none, left_hit}
use Rattle.nearest.proofs.question.to_left.Goals.{After-partition_point-i}
use Rattle.nearest.proofs.question.to_left.Goals as goal

-- how many start before the first cell
cut : (c : After-partition_point-i) → Cut (firsts c.args.spans.now) c.address-a.result c.partition_point-i.result
cut c =
    let first = λ (s : Span). s.first in
    let parts = climbs_parts first refl _ c.address-a.result (starts_climb _ _ c.requires.tables.0) in
    point_cut first refl _ _ _ c.partition_point-i.ensures.bound (IsPartitionPoint-from_clause (λ (s : Span). ltb s.first c.address-a.result) _ _ c.partition_point-i.ensures.partitioned parts (λ a r f k. search rules))

pub returns-then-i-eq0 : goal.returns-then-i-eq0
returns-then-i-eq0 c =
    let (p, q, row, column) = c.requires.cells in
    left_none _ _ c.requires.tables.0 c.args.p c.args.q row p.1 q.1 (omega arith) c.address-a.result _ c.partition_point-i.result c.address-a.ensures refl (cut (goal.at.returns-then-i-eq0 c).After-partition_point-i) (λ h. absurd (omega arith))

pub returns-then-spans-i : goal.returns-then-spans-i
returns-then-spans-i c =
    let (p, q, row, column) = c.requires.cells in
    let i = c.partition_point-i.result in
    left_none _ _ c.requires.tables.0 c.args.p c.args.q row p.1 q.1 (omega arith) c.address-a.result c.address.result i c.address-a.ensures
    c.address.ensures (cut (goal.at.returns-then-spans-i c).After-partition_point-i) (λ h. omega (arith, last_at c.args.spans.now (i - 1), c.if-spans-i.true))

pub returns : goal.returns
returns c =
    let (p, q, row, column) = c.requires.cells in
    let i = c.partition_point-i.result in
    let found = cut (goal.at.returns c).After-partition_point-i in
    left_hit _ _ c.requires.tables.0 c.args.p c.args.q row p.1 q.1 column c.address-a.result c.address.result i c.address-a.ensures c.address.ensures
    found (omega (arith, c.if-i-eq0.false)) (omega (arith, last_at c.args.spans.now (i - 1), c.if-spans-i.false)) (c.requires.tables.1 (i - 1) (omega (arith, c.if-i-eq0.false, found.upto)))
