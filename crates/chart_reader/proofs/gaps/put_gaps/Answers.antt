use mathlib.Core.Bool.{true≢false}
use mathlib.Core.Path.{◌≡◌, refl, ap, sym, subst, ◌∙◌}
use mathlib.Core.List.{List}
use Prim.Native.Nat.{ℕ, ◌+◌}
use borrow.Author.Count.{below_more}
use native.Mathlib.Omega.{arith}
use lib.ListN.{length, get_or}
use Rattle.chart.specs.Chart.{Stroke}
use Rattle.chart.specs.Decode.{stroke_at, stroke_of, chart_in}
use Rattle.nearest.specs.declared.Cell.{Cell}
use Rattle.nearest.specs.Order.{firsts, lasts}
use Rattle.chart_reader.specs.Rules.{Named, BarsFit}
use Rattle.chart_reader.specs.Gaps.{InGap, Gapped, GapsIn}
use Rattle.nearest.proofs.Seeking.{lasts_length}
use Rattle.chart_reader.proofs.Stroked.{strokes_at, place_room, stroke_in}
use Rattle.chart_reader.proofs.Gapping.{gapped, gaps_none, gaps_same, gap_next}
use Rattle.chart_reader.proofs.gaps.put_gaps.Goals.{then-put_gap, else-put_gap}
use Rattle.chart_reader.proofs.gaps.put_gaps.Goals as goal

-- the stroke at a place of the table
abbrev strokes : List ℕ → List ℕ → ℕ → Stroke
strokes chart at k = stroke_at chart (get_or at k 0)

pub loop-place-init : goal.loop-place-init
loop-place-init c =
    let t = c.args.spans.now in
    let O = c.requires.bars.1 in
    let size = lasts_length c.args.gaps.now ∙ c.requires.none.0 in
    (refl, gaps_none (chart_in c.args.strokes.now.chart.now) (strokes c.args.strokes.now.chart.now c.args.strokes.now.at.now) (firsts t) (lasts t) O.order (lasts c.args.gaps.now) (omega (arith, size, O.order.size, O.count)) (λ i h. c.requires.none.1 i (omega (arith, O.order.size, O.count))), λ h k l. absurd (omega arith))

pub stroke_at-requires : goal.stroke_at-requires
stroke_at-requires c = place_room _ _ _ c.args.strokes.now.found c.loop-place.place-index c.loop-place-test.true

pub put_gap-requires-clause-stroke : goal.put_gap-requires-clause-stroke
put_gap-requires-clause-stroke c =
    let s = c.args.strokes.now.chart.now in
    let C = chart_in s in
    let rules = c.requires.strokes in
    let is = c.stroke_at.ensures in
    let gapped_is = subst (Gapped C) (sym is) (strokes_at s c.args.strokes.now.n c.args.strokes.now.at.now c.args.strokes.now.found (gapped C rules.0 rules.1) c.loop-place.place-index c.loop-place-test.true) in
    (stroke_in _ _ _ c.args.strokes.now.found c.loop-place.place-index c.loop-place-test.true is rules.1.0, gapped_is)

pub loop-place-preserved : goal.loop-place-preserved
loop-place-preserved c =
    let s = c.args.strokes.now.chart.now in
    let C = chart_in s in
    let at = c.args.strokes.now.at.now in
    let i = c.loop-place.place-index in
    let is = c.stroke_at.ensures in
    let rules = c.requires.strokes in
    let put = c.put_gap.ensures in
    let fit = subst (BarsFit C) (sym is) (strokes_at s c.args.strokes.now.n at c.args.strokes.now.found rules.1.2 i c.loop-place-test.true) in
    let named = subst (Named C) (sym is) (strokes_at s c.args.strokes.now.n at c.args.strokes.now.found rules.1.0 i c.loop-place-test.true) in
    let gaps = c.loop-place.invariant.1 in (
      elim c.if-put_gap.branch [
        | then-put_gap w ↦ (put.some w.if-put_gap.true).0 ∙ c.loop-place.invariant.0
        | else-put_gap w ↦ ap firsts (put.none w.if-put_gap.false).0 ∙ c.loop-place.invariant.0
      ],
      elim c.if-put_gap.branch [
        | then-put_gap w ↦ gap_next C c.args.strokes.now.n (firsts c.args.spans.now) (lasts c.args.spans.now) _ c.requires.bars.1 rules.0 c.args.strokes.now.found.count (strokes s at) i (lasts c.loop-place.gaps) gaps (stroke_of c.stroke_at.result) is fit named (subst (Gapped C) (sym is) (strokes_at s c.args.strokes.now.n at c.args.strokes.now.found (gapped C rules.0 rules.1) i c.loop-place-test.true)) _ (put.some w.if-put_gap.true).1
        | else-put_gap w ↦ subst (GapsIn C (strokes s at) (i + 1) (firsts c.args.spans.now) (lasts c.args.spans.now)) (sym (ap lasts (put.none w.if-put_gap.false).0)) (gaps_same C (strokes s at) (firsts c.args.spans.now) (lasts c.args.spans.now) i (lasts c.loop-place.gaps) gaps (subst (λ (t : Stroke). (d : Cell) → InGap C t d → ⊥) is (put.none w.if-put_gap.false).1))
      ],
      elim c.if-put_gap.branch [
        | then-put_gap w ↦ λ h. absurd (true≢false (sym w.any-is ∙ h))
        | else-put_gap w ↦ λ h. below_more _ _ (c.loop-place.invariant.2 (sym w.any-is ∙ h)) (subst (λ (t : Stroke). (d : Cell) → InGap C t d → ⊥) is (put.none w.if-put_gap.false).1)
      ],
    )

pub returns : goal.returns
returns c =
    let e : c.loop-place.place-index ≡ length c.args.strokes.now.at.now = omega (arith, c.loop-place.invariant.1, c.loop-place-test.false) in
    record { starts = c.loop-place.invariant.0; gaps = subst (λ (k : ℕ). GapsIn (chart_in c.args.strokes.now.chart.now) (strokes c.args.strokes.now.chart.now c.args.strokes.now.at.now) k (firsts c.args.spans.now) (lasts c.args.spans.now) (lasts c.loop-place.gaps)) e c.loop-place.invariant.1; any = λ h k l. c.loop-place.invariant.2 h k (omega (arith, e)) }
