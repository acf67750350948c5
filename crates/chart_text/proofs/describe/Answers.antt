-- By what was read.
use Rattle.std.proofs.Common.{sym, arith}
use Rattle.std.specs.Prelude.{Ok, Err}
use Rattle.sheet.proofs.Hand.{read_is}
use Rattle.chart.specs.Decode.{chart_in}
use Rattle.log_line.proofs.Size.{refused_size}
use Rattle.chart_text.specs.Text.{described_as, described}
use Rattle.chart_text.proofs.Described.{read_formed}
use Rattle.chart_text.proofs.describe.Goals as goal

pub describe_part-requires : goal.describe_part-requires
describe_part-requires c = record { formed = read_formed c.args.chart.now _ (sym c.in-Ok.ensures); room = omega arith }

pub returns-in-Err : goal.returns-in-Err
unfolding described described_as
returns-in-Err c =
    let said = read_is (Err c.in-Err.refusal) (described_as (chart_in c.args.chart.now)) c.in-Err.ensures in
    record { text = rw (← said) (rw c.number.ensures.number at c.put_refused.ensures); within = omega (arith, c.put_refused.ensures.end, refused_size c.number.result) }

pub returns-in-Ok : goal.returns-in-Ok
unfolding described
returns-in-Ok c =
    let said = read_is (Ok c.in-Ok.part) (described_as (chart_in c.args.chart.now)) c.in-Ok.ensures in
    record { text = rw (← said) c.describe_part.ensures.text; within = c.describe_part.ensures.within }
