-- By the kind.
use mathlib.Core.Path.{sym}
use native.Mathlib.Omega.{arith}
use Rattle.edit_list.specs.Script.{edit_by}
use Rattle.edit_list.proofs.Desks.{edit_else}
use Rattle.edit_list.proofs.edit_by.Goals as goal

pub returns-in-0 : goal.returns-in-0
unfolding edit_by
returns-in-0 c = rw c.in-0.is

pub returns-in-1 : goal.returns-in-1
unfolding edit_by
returns-in-1 c = rw c.in-1.is

pub returns-in_default : goal.returns-in_default
returns-in_default c = sym (edit_else c.args.kind c.args.a c.args.b (λ e. omega arith) (λ e. omega arith))
