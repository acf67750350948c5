use Rattle.std.proofs.Common.{rules, refl, ltb}
use Rattle.std.proofs.lemmas.List.Sorted.{IsPartitionPoint-from_clause}
use Rattle.nearest.specs.declared.Span.{Span}
use Rattle.nearest.proofs.Seeking.{climbs_parts, point_cut}
use Rattle.nearest.proofs.question.seek.Goals as goal

pub returns : goal.returns
returns c =
    let last = λ (s : Span). s.last in
    let parts = climbs_parts last refl _ c.args.x c.requires in
    point_cut last refl _ _ _ c.partition_point.ensures.bound (IsPartitionPoint-from_clause (λ (s : Span). ltb s.last c.args.x) _ _ c.partition_point.ensures.partitioned parts (λ a r f k. search rules))
