-- By the definition of the label's calls.
use Rattle.draw.specs.Label.{labelled_with_bars}
use Rattle.draw.proofs.draw_label_with_bars.Goals as goal

pub returns : goal.returns
unfolding labelled_with_bars
returns c = c.draw_bars.ensures
