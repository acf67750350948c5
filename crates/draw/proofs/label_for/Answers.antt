-- By the definition of the label's calls.
use Rattle.draw.specs.Label.{labelled_with_bars}
use Rattle.draw.proofs.label_for.Goals as goal

pub returns : goal.returns
unfolding labelled_with_bars
returns c =
    let whole = c.draw_within.ensures in
    record { answer = whole.answer; fits = whole.fits }
