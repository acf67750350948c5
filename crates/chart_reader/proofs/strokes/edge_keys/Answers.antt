use mathlib.Core.Bool.{true≢false, false≢true}
use native.Mathlib.Omega.{arith}
use lib.ListN.{length}
use Rattle.chart_reader.proofs.Stroked.{place_room}
use Rattle.chart_reader.proofs.Keyed.{not_named, keyed_next, all_named, all_keyed}
use Rattle.chart_reader.proofs.strokes.edge_keys.Goals.{then-s-via-then-s, then-s-via-else-s+then-s-strokes}
use Rattle.chart_reader.proofs.strokes.edge_keys.Goals as goal

pub stroke_at-s-requires : goal.stroke_at-s-requires
stroke_at-s-requires c = place_room _ _ _ c.args.strokes.now.found c.loop-i.i c.loop-i-test.true

pub returns-then-s : goal.returns-then-s
returns-then-s c = record {
  yes = λ h. absurd (false≢true h);
  no = λ h. not_named _ _ _ _ c.loop-i.keys c.loop-i.i c.loop-i.invariant c.args.strokes.now.found c.loop-i-test.true c.stroke_at-s.result c.stroke_at-s.ensures (λ q. elim c.then-s.branch [
    | then-s-via-then-s w ↦ omega (arith, w.if-s.true)
    | then-s-via-else-s+then-s-strokes w ↦ omega (arith, w.if-s-strokes.true)
  ]);
}

pub loop-i-preserved : goal.loop-i-preserved
loop-i-preserved c =
    keyed_next _ _ _ (length c.args.keys.now) c.loop-i.keys c.loop-i.i c.loop-i.invariant c.args.strokes.now.found c.loop-i-test.true
    c.stroke_at-s.result c.stroke_at-s.ensures c.requires c.if-s.false c.if-s-strokes.false _ c.key.ensures

pub returns : goal.returns
returns c =
    let keys = c.loop-i.keys in
    let K = c.loop-i.invariant in record { yes = λ h. (all_named _ _ _ _ keys _ K c.args.strokes.now.found c.loop-i-test.false, all_keyed _ _ _ _ keys _ K c.args.strokes.now.found c.loop-i-test.false c.requires); no = λ h. absurd (true≢false h) }
