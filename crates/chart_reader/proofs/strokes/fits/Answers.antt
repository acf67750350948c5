-- Joined, and the question about the stroke's two cells.
use Rattle.std.proofs.Common.{ap, sym, subst, ◌∙◌}
use Rattle.chart.specs.Decode.{chart_in}
use Rattle.nearest.specs.Nearest.{found_of}
use Rattle.chart_reader.specs.Rules.{Free}
use Rattle.chart_reader.proofs.Stroked.{none_is, some_is}
use Rattle.chart_reader.proofs.Standing.{none_free, some_stands}
use Rattle.chart_reader.proofs.strokes.fits.Goals as goal

pub returns : goal.returns
returns c =
    let chart = chart_in c.args.strokes.now.chart.now in
    let told = sym (c.nearest_corner.ensures chart.bar c.args.strokes.now.n c.requires.bars) in
    record {
      yes = λ h. (c.joins.ensures.yes c.if-not-joins.false, subst (Free chart) c.stroke_ends-e.ensures.same (none_free chart c.args.strokes.now.n c.args.strokes.now.bars.count _ (told ∙ ap found_of (none_is (rw h at c.is_none.ensures)))));
      no = λ h F. let (x, is) = some_is (rw h at c.is_none.ensures) in some_stands chart c.args.strokes.now.n c.args.strokes.now.bars.count _ x (told ∙ ap found_of is) (subst (Free chart) (sym c.stroke_ends-e.ensures.same) F.1);
    }
