-- Nothing but zeros.
use Rattle.lists.proofs.Places.{blank}
use Rattle.levels.proofs.Tables.new.Goals as goal

pub returns : goal.returns
returns c = record { no_edges = blank 3072; no_values = blank 12270 }
