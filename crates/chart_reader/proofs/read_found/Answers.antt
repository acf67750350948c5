-- The tests in their order, by the laws of Found.antt.
use mathlib.Core.Path.{◌≡◌, ap, sym, ◌∙◌}
use mathlib.Core.List.{List}
use Prim.Native.Nat.{ℕ}
use native.Mathlib.Omega.{arith}
use lib.ListN.{length}
use lib.Seq.{take_all}
use lib.ListN.{take}
use Rattle.keys.specs.Keys.{edges_of}
use Rattle.chart.specs.Decode.{chart_in}
use Rattle.nearest.specs.BarRule.{BarRule}
use Rattle.chart_reader.specs.Rules.{StrokeRule, edges_in}
use Rattle.chart_reader.specs.Held.{StrokesFound}
use Rattle.sheet.specs.Sheet.{held}
use Rattle.sheet.proofs.Hand.{flat_count}
use Rattle.chart_reader.proofs.Verdict.{by_15, by_16, by_17, read_by}
use Rattle.chart_reader.proofs.Found.{Edged, edges_found, no_part, part_valid, part_read}
use Rattle.chart_reader.proofs.read_found.Goals.{Else-not-strokes_keep}
use Rattle.chart_reader.proofs.read_found.Goals as goal

-- the keys of the edges
edged : (s : List ℕ) (n : ℕ) (at keys : List ℕ) → StrokesFound s n at → BarRule (chart_in s) → StrokeRule (chart_in s) × (edges_of (take (length at) keys) ≡ edges_in (chart_in s)) → length keys ≡ length at → Edged s n at keys
edged s n at keys found bars S long = record {
  placed = found;
  bars = bars;
  strokes = S.0;
  keys = ap edges_of (sym (take_all (length at) keys (omega (arith, long)))) ∙ S.1;
}

-- what was found, when strokes and bars keep their rules
found : (c : Else-not-strokes_keep) → Edged c.args.strokes.now.chart.now c.args.strokes.now.n c.args.strokes.now.at.now c.strokes_keep.new.keys
found c = edged _ _ _ _ c.args.strokes.now.found (c.bars_keep.ensures.yes c.if-not-bars_keep.false).0 (c.strokes_keep.ensures.yes c.if-not-strokes_keep.false) (c.strokes_keep.auto.keys ∙ c.requires.edges)

pub returns-then-not-bars_keep : goal.returns-then-not-bars_keep
returns-then-not-bars_keep c = sym (read_by c.args.strokes.now.chart.now (by_15 c.args.strokes.now.found.formed (c.bars_keep.ensures.no c.if-not-bars_keep.true)))

pub returns-then-not-strokes_keep : goal.returns-then-not-strokes_keep
returns-then-not-strokes_keep c = sym (read_by c.args.strokes.now.chart.now (by_16 c.args.strokes.now.found.formed (c.bars_keep.ensures.yes c.if-not-bars_keep.false).0 (c.strokes_keep.ensures.no c.if-not-strokes_keep.true)))

pub returns-then-not-gaps_keep : goal.returns-then-not-gaps_keep
returns-then-not-gaps_keep c =
    let E = found (goal.at.returns-then-not-gaps_keep c).Else-not-strokes_keep in
    sym (read_by c.args.strokes.now.chart.now (by_17 E.placed.formed E.bars E.strokes (c.gaps_keep.ensures.no c.if-not-gaps_keep.true)))

pub part-requires : goal.part-requires
part-requires c =
    let E = found (goal.at.part-requires c).Else-not-strokes_keep in
    (edges_found E, c.args.strokes.now.sizes.1, omega (arith, c.strokes_keep.auto.keys, c.requires.edges, c.args.strokes.now.sizes))

pub returns-then-not-part : goal.returns-then-not-part
returns-then-not-part c =
    let E = found (goal.at.returns-then-not-part c).Else-not-strokes_keep in
    sym (no_part E (c.gaps_keep.ensures.yes c.if-not-gaps_keep.false) (c.part.ensures.no c.if-not-part.true))

pub flat-requires : goal.flat-requires
flat-requires c =
    let E = found (goal.at.flat-requires c).Else-not-strokes_keep in
    let V = part_valid E (c.gaps_keep.ensures.yes c.if-not-gaps_keep.false) _ (c.part.ensures.yes c.if-not-part.false) in
    record { part = V; room = omega (arith, flat_count _ _ V, V.most, c.requires.room) }

pub returns : goal.returns
returns c =
    let E = found (goal.at.returns c).Else-not-strokes_keep in
    ap held c.flat.ensures ∙ sym (part_read E (c.gaps_keep.ensures.yes c.if-not-gaps_keep.false) _ (c.part.ensures.yes c.if-not-part.false))
