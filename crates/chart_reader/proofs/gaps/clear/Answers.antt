-- By whether the stroke is upright.
use Rattle.std.proofs.Common.{ap, sym, ◌∙◌}
use Rattle.chart.specs.Decode.{chart_in}
use Rattle.nearest.specs.Nearest.{found_of}
use Rattle.nearest.specs.Order.{firsts, lasts}
use Rattle.chart_reader.proofs.Stroked.{none_is, some_is}
use Rattle.chart_reader.proofs.Passing.{upright_clear, upright_met}
use Rattle.chart_reader.proofs.gaps.clear.Goals as goal

pub returns : goal.returns
returns c =
    let a = c.args in
    let (j, up) = some_is c.if-is_none.ensures in
    let told = sym c.in_column.ensures in
    record {
      yes = λ h. upright_clear (chart_in a.strokes.now.chart.now) a.s up c.stroke_ends-e.ensures (firsts a.gaps.now) (lasts a.gaps.now) (told ∙ ap found_of (none_is (rw h at c.is_none-2.ensures)));
      no = λ h. let (x, is) = some_is (rw h at c.is_none-2.ensures) in upright_met (chart_in a.strokes.now.chart.now) a.s up c.stroke_ends-e.ensures (firsts a.gaps.now) (lasts a.gaps.now) x (told ∙ ap found_of is);
    }
