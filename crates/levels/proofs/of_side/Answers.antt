-- Nothing but zeros.
use mathlib.Core.Path.{refl}
use Rattle.umbrella.specs.Values.{ud}
use Rattle.levels.proofs.of_side.Goals as goal

pub returns : goal.returns
unfolding ud
returns c = refl
