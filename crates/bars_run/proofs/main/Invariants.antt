-- The measure is what is left of the input.
use Rattle.std.proofs.Common.{length}
use Rattle.bars_run.proofs.main.Given as goal

abbrev pub decreases-loop-call : goal.decreases-loop-call
decreases-loop-call l = length l.left
