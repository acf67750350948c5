use native.Mathlib.Omega.{arith}
use Rattle.lists.proofs.Places.{at_all}
use Rattle.chart_reader.proofs.Stroked.{place_room, stroke_in}
use Rattle.chart_text.proofs.Lines.{lines_none, lines_more}
use Rattle.chart_text.proofs.strokes.put_lines.Goals as goal

pub loop-key-init : goal.loop-key-init
loop-key-init c =
    (omega arith, lines_none c.args.strokes.now.chart.now c.args.strokes.now.at.now c.args.keys.now c.args.out.now c.args.from)

pub bounds-strokes-i : goal.bounds-strokes-i
bounds-strokes-i c =
    at_all 0 c.requires.room.0 c.loop-key.key-index c.loop-key-test.true

pub stroke_at-s-requires : goal.stroke_at-s-requires
stroke_at-s-requires c =
    place_room _ _ _ c.args.strokes.now.found _ (at_all 0 c.requires.room.0 c.loop-key.key-index c.loop-key-test.true)

pub put_stroke-end-requires : goal.put_stroke-end-requires
put_stroke-end-requires c = (
  stroke_in _ _ _ c.args.strokes.now.found _ (at_all 0 c.requires.room.0 c.loop-key.key-index c.loop-key-test.true) c.stroke_at-s.ensures c.requires.strokes,
  omega (arith, c.loop-key.invariant, c.loop-key-test.true, c.requires.room.1),
)

pub loop-key-preserved : goal.loop-key-preserved
loop-key-preserved c = (
  omega (arith, c.put_stroke-end.ensures.within, c.loop-key.invariant.0),
  lines_more c.args.strokes.now.chart.now c.args.strokes.now.at.now c.args.keys.now c.loop-key.key-index c.loop-key-test.true c.loop-key.invariant.1 c.stroke_at-s.ensures c.put_stroke-end.ensures.text,
)
