-- The strokes of the bytes, then the question; the table is as long as there are corners.
use Rattle.std.proofs.Common.{sym}
use Rattle.std.proofs.lemmas.Option.{MatchOption-at_none}
use Rattle.std.proofs.lemmas.Result.{err_from_is_err_and}
use Rattle.chart_reader.proofs.Stroked.{refused_as}
use Rattle.chart_reader.proofs.Following.{by_14, followed_by}
use Rattle.chart_reader.proofs.follow.nearest_bar.Goals as goal

pub returns-in_err-strokes : goal.returns-in_err-strokes
returns-in_err-strokes c =
    let none = MatchOption-at_none _ _ c.in_err-strokes.ensures.ok_part c.strokes_in.ensures in
    let p = err_from_is_err_and c.from_residual.result c.from_residual.ensures.1 in
    rw (p.1, p.2, refused_as _ c.in_err-strokes.ensures.value) (sym (followed_by _ _ (by_14 none)))
