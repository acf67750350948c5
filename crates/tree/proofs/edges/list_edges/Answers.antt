-- The lists merged are those of Listing.antt.
use mathlib.Core.Path.{◌∙◌, ap}
use Rattle.keys.specs.Keys.{edges_of}
use Rattle.tree.proofs.Listing.{edges_listed}
use Rattle.tree.proofs.edges.list_edges.Goals as goal

pub returns-clause-edges : goal.returns-clause-edges
returns-clause-edges c = ap edges_of c.place_outline.ensures.merged ∙ edges_listed c.args.n c.args.keys.now c.requires.part.0 c.requires.part.1
