use Rattle.std.proofs.Common.{◌∙◌}
use Rattle.chart_writer.proofs.Runs.{bar_put}
use Rattle.chart_writer.proofs.bytes.put_bar.Goals as goal

pub returns : goal.returns
returns c =
    let bar = c.args.bar in
    c.put16-3.ensures ∙ rw (c.put16-2.ensures, c.put16.ensures, c.from.ensures, c.from-2.ensures, c.from-3.ensures)
    (bar_put c.args.out.now c.args.at bar.row bar.left bar.right)
