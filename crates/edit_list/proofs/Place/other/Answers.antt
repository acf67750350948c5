-- By the place.
use mathlib.Core.Logic.{⊎_elim}
use Rattle.edit_list.specs.Desk.{placed, other}
use Rattle.edit_list.proofs.Place.other.Goals as goal

pub returns-in-Front : goal.returns-in-Front
unfolding placed other
returns-in-Front c = rw c.in-Front.is

pub returns-in-First : goal.returns-in-First
unfolding placed other
returns-in-First c = ⊎_elim (λ e. rw e) (λ e. rw e) c.in-First.is
