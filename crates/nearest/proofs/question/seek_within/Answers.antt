use Rattle.nearest.specs.declared.Span.{Span}
use Rattle.nearest.proofs.Seeking.{part_climbs, part_cut}
use Rattle.nearest.proofs.question.seek_within.Goals as goal

pub seek-requires : goal.seek-requires
seek-requires c = part_climbs (λ (s : Span). s.last) _ _ _ c.requires.between.order c.requires.between.upto c.requires.climbs

pub returns : goal.returns
returns c = part_cut (λ (s : Span). s.last) _ _ _ c.requires.between.order c.requires.between.upto _ _ c.requires.between c.seek.ensures
