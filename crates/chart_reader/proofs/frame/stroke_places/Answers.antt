use mathlib.Core.Path.{refl}
use mathlib.Core.Bool.{false≢true}
use borrow.Author.Tests.{eqb-true, eqb-false}
use native.Mathlib.Omega.{arith}
use lib.ListN.{length}
use Rattle.chart_reader.proofs.Placing.{placing_none, past_end, other_bit, placing_next, placed, not_ending}
use Rattle.chart_reader.proofs.frame.stroke_places.Goals as goal

pub loop-place-init : goal.loop-place-init
loop-place-init c = placing_none _ _ _

pub returns-then-p-chart : goal.returns-then-p-chart
returns-then-p-chart c =
    record { yes = λ h. absurd (false≢true h); no = λ h. past_end c.args.chart.now c.args.from (length c.args.at.now) c.loop-place.at c.loop-place.place-index c.loop-place.p c.loop-place.invariant (omega (arith, c.loop-place.invariant.size)) c.if-p-chart.true }

pub returns-then-map-ge2 : goal.returns-then-map-ge2
returns-then-map-ge2 c =
    record { yes = λ h. absurd (false≢true h); no = λ h. other_bit c.args.chart.now c.args.from (length c.args.at.now) c.loop-place.at c.loop-place.place-index c.loop-place.p c.loop-place.invariant (omega (arith, c.loop-place.invariant.size)) c.if-map-ge2.true }

pub loop-place-preserved : goal.loop-place-preserved
loop-place-preserved c =
    placing_next c.args.chart.now c.args.from (length c.args.at.now) c.loop-place.at c.loop-place.place-index c.loop-place.p c.loop-place.invariant (omega (arith, c.loop-place.invariant.size)) c.if-map-ge2.false _ refl

pub returns : goal.returns
returns c =
    let chart = c.args.chart.now in
    let at = c.args.at.now in
    let from = c.args.from in
    let p = c.loop-place.p in
    let i = c.loop-place.place-index in record { yes = λ h. placed chart from (length at) c.loop-place.at i p c.loop-place.invariant (omega (arith, c.loop-place.invariant.size)) (eqb-true _ _ h); no = λ h. not_ending chart from (length at) c.loop-place.at i p c.loop-place.invariant (omega (arith, c.loop-place.invariant.size)) (eqb-false p (length chart) h) }
