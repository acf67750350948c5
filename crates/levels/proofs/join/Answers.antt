-- A side has zeros.
use mathlib.Core.Path.{ap}
use Rattle.umbrella.specs.Values.{ud}
use Rattle.levels.specs.declared.Six.{Six}
use Rattle.levels.proofs.join.Goals as goal

pub partial-partial_a-requires : goal.partial-partial_a-requires
unfolding ud
partial-partial_a-requires c =
    λ h. let z = c.requires.left h in (ap (λ (s : Six). s.partial_a) z.0, ap (λ (s : Six). s.ud) z.1, ap (λ (s : Six). s.fan_a) z.0, ap (λ (s : Six). s.handle) z.1)

pub partial-partial_b-requires : goal.partial-partial_b-requires
unfolding ud
partial-partial_b-requires c =
    λ h. let z = c.requires.right h in (ap (λ (s : Six). s.partial_b) z.0, ap (λ (s : Six). s.ud) z.1, ap (λ (s : Six). s.fan_b) z.0, ap (λ (s : Six). s.handle) z.1)
