-- The lower corner goes first.
use mathlib.Core.Path.{sym}
use native.Mathlib.Omega.{arith}
use Rattle.edit.specs.Rules.{flip, rule}
use Rattle.edit.proofs.Reading.{flip_either, in_order}
use Rattle.edit.proofs.Turning.{turn_outside}
use Rattle.edit.proofs.held.flip_in.Goals as goal

pub returns-then-a-n : goal.returns-then-a-n
returns-then-a-n c = sym (turn_outside c.args.part.now c.args.a c.args.b (λ t. omega (arith, c.then-a-n.either, c.head-n.ensures.corners)))

pub returns : goal.returns
returns c = rw (c.min.ensures, c.max.ensures, in_order (λ a b. rule (flip a b) c.args.part.now) (λ a b. flip_either a b _) c.args.a c.args.b) at c.turn.ensures
