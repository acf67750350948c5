-- By whether the stroke is level, and its gap has a cell.
use native.Mathlib.Omega.{arith}
use Rattle.chart.specs.Decode.{chart_in}
use Rattle.std.proofs.Common.{refl, sym, ◌∙◌}
use Rattle.std.proofs.Math.Seq.{map-set_same}
use Rattle.std.proofs.lemmas.List.{map-set}
use Rattle.nearest.specs.declared.Span.{Span}
use Rattle.nearest.proofs.Seeking.{blank}
use Rattle.nearest.proofs.Spans.{ends_climb}
use Rattle.nearest.specs.Order.{firsts, lasts}
use Rattle.chart_reader.proofs.Stroked.{none_is}
use Rattle.chart_reader.proofs.Gapping.{end_found}
use Rattle.chart_reader.proofs.Passing.{first_before, gap_put}
use Rattle.chart_reader.proofs.gaps.put_gap.Goals as goal

pub seek-i-requires : goal.seek-i-requires
seek-i-requires c = ends_climb _ _ c.requires.bars.1.1.order

pub bounds-gaps-i : goal.bounds-gaps-i
bounds-gaps-i c =
    let a = c.args in
    let C = chart_in a.strokes.now.chart.now in
    let under = first_before C a.s (none_is (sym c.is_some.ensures ∙ c.if-is_some.false)) c.stroke_ends.ensures in
    omega (arith, c.requires.bars.0, end_found C a.strokes.now.n (firsts a.spans.now) (lasts a.spans.now) _ c.requires.bars.1.1 a.s.a c.requires.stroke.0.low (omega (arith, under, c.address.ensures)) c.seek-i.ensures)

pub returns-clause-some : goal.returns-clause-some
returns-clause-some c = λ h.
    let a = c.args in
    let t = a.gaps.now in
    let level = none_is (sym c.is_some.ensures ∙ c.if-is_some.false) in
    let wide = gap_put (chart_in a.strokes.now.chart.now) a.s level c.stroke_ends.ensures (omega arith) (lasts a.spans.now) (lasts t) c.address.result c.address-2.result c.seek-i.result c.address.ensures c.address-2.ensures c.seek-i.ensures in
    (map-set_same (λ (s : Span). s.first) t c.seek-i.result _ blank refl, rw (map-set (λ (s : Span). s.last) t c.seek-i.result) wide)
