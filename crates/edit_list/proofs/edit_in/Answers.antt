use Rattle.edit_list.specs.Script.{edit_at}
use Rattle.edit_list.proofs.edit_in.Goals as goal

pub returns : goal.returns
unfolding edit_at
returns c = rw (c.edit_by-e.ensures, c.get32.ensures.0, c.get32-2.ensures.0, c.get32-3.ensures.0)
