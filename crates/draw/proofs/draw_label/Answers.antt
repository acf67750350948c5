-- The answer of `label_for` with room for any part, by `without_bars` of Answers.antt.
use mathlib.Core.Path.{◌≡◌}
use Rattle.std.proofs.Common.{rules}
use Rattle.draw.specs.Label.{label, labelled, labelled_with_bars}
use Rattle.draw.proofs.Answers.{alone, without_bars}
use Rattle.draw.proofs.draw_label.Goals as goal

pub returns : goal.returns
unfolding labelled labelled_with_bars
returns c =
    let a = c.args in
    let f = c.label_for in
    let first : c.map.result ≡ alone f.result = search rules in
    rw first (without_bars label a.sheet.now a.out.now f.new.out f.result f.ensures.answer)
