-- The form of the bytes is tested, and the tables are as long as there are corners and strokes.
use Rattle.std.proofs.Common.{sym}
use Rattle.std.proofs.lemmas.Option.{MatchOption-at_none}
use Rattle.std.proofs.lemmas.Result.{err_from_is_err_and}
use Rattle.chart_reader.proofs.Stroked.{refused_as}
use Rattle.chart_reader.proofs.Verdict.{by_14, read_by}
use Rattle.chart_reader.proofs.read_part.Goals as goal

pub returns-in_err-strokes : goal.returns-in_err-strokes
returns-in_err-strokes c =
    let none = MatchOption-at_none _ _ c.in_err-strokes.ensures.ok_part c.strokes_in.ensures in
    let p = err_from_is_err_and c.from_residual.result c.from_residual.ensures.1 in
    rw (p.1, p.2, refused_as _ c.in_err-strokes.ensures.value) (sym (read_by c.args.chart.now (by_14 none)))
