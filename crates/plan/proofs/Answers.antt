-- From the values and counts of a part to what the operation answers.
-- Rests on Counted.antt and on the theorems of the crate umbrella.
use mathlib.Core.Path.{◌≡◌, ◌∙◌}
use Prim.Native.Nat.{ℕ}
use Rattle.polygon.specs.Tree.{Tree}
use Rattle.umbrella.specs.Best.{best}
use Rattle.umbrella.proofs.Theorems.{computed_has}
use Rattle.umbrella.specs.declared.roles.Role.TheVariants.{Hung}
use Rattle.levels.specs.declared.Six.{Six}
use Rattle.levels.specs.Kept.{six}
use Rattle.plan.specs.declared.counts.Tally.{Tally}
use Rattle.plan.specs.Counts.{counted, totals_of}
use Rattle.plan.proofs.Counted.{counted_best}

-- the counts of the plan drawn
pub totals_are : (t : Tree) (d : ℕ) (s : Six) (x : Tally) → s ≡ six t → x ≡ counted Hung d t → record { levels = s.ud; umbrellas = x.umbrellas; stems = x.stems } ≡ totals_of (best t)
totals_are t d s x p q = let k = q ∙ counted_best t d in rw (p, k, ← computed_has t)
