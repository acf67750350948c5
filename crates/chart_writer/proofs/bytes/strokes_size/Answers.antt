use mathlib.Core.Path.{ap, sym}
use Rattle.std.specs.Prelude.{None}
use lib.ListN.{length}
use native.Mathlib.Omega.{arith}
use lib.Seq.{get_or-take, length-take-le}
use Rattle.chart_writer.specs.Tables.{stroke_map}
use Rattle.chart_writer.proofs.Runs.{strokes_none, stroke_more}
use Rattle.chart_writer.proofs.bytes.strokes_size.Goals as goal

pub loop-c-init : goal.loop-c-init
loop-c-init c = (omega arith, λ tr. sym (ap length (strokes_none tr c.args.stands.now)))

pub loop-c-preserved : goal.loop-c-preserved
loop-c-preserved c =
    let stands = c.args.stands.now in
    let i = c.loop-c.c-index in
    let here = ap stroke_map (get_or-take c.args.m stands i None (omega (arith, length-take-le c.args.m stands (omega arith)))) in
    (omega (arith, c.map_byte.ensures.1), λ tr. omega (arith, c.loop-c.invariant.1 tr, c.map_byte.ensures.0, stroke_more tr stands i, here))
