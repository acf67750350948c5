use Rattle.std.proofs.Common.{◌∙◌}
use Rattle.std.proofs.Math.ListN.{get_or-map}
use Rattle.chart.specs.declared.Bar.{Bar}
use Rattle.chart_writer.specs.Tables.{rows_of, lefts_of, rights_of}
use Rattle.chart_writer.proofs.Fields.{blank}
use Rattle.chart_writer.proofs.Runs.{bar_stored, bars_none}
use Rattle.chart_writer.proofs.bytes.put_bars.Goals as goal

pub loop-x-init : goal.loop-x-init
loop-x-init c = let bars = c.args.bars.now in bars_none (rows_of bars) (lefts_of bars) (rights_of bars) c.args.out.now

pub loop-x-preserved : goal.loop-x-preserved
loop-x-preserved c =
    let bars = c.args.bars.now in
    let x = c.loop-x.x in
    c.put_bar.ensures ∙ rw c.loop-x.invariant
    (rw (get_or-map (λ (b : Bar). b.row) bars x blank, get_or-map (λ (b : Bar). b.left) bars x blank, get_or-map (λ (b : Bar). b.right) bars x blank) at
    (bar_stored (rows_of bars) (lefts_of bars) (rights_of bars) c.args.out.now x))
