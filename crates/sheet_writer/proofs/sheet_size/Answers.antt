-- By the head.
use mathlib.Core.Path.{sym, ◌∙◌}
use native.Mathlib.Omega.{arith}
use Rattle.sheet_writer.proofs.Writing.{size_is}
use Rattle.sheet_writer.proofs.sheet_size.Goals as goal

pub normal_size-requires : goal.normal_size-requires
normal_size-requires c = let V = c.head.ensures.valid in omega (arith, V.least, V.most, c.head.ensures.corners)

pub returns : goal.returns
returns c = c.normal_size.ensures ∙ rw (c.head.ensures.corners, c.head.ensures.angles) (sym (size_is c.head.ensures.valid))
