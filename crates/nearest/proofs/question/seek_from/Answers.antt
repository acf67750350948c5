-- All spans before `low` end before x; if that at `high` does not, x belongs between the two places.
use Rattle.std.proofs.Common.{arith}
use Rattle.nearest.proofs.Seeking.{climb, last_at, lasts_length}
use Rattle.nearest.proofs.question.seek_from.Goals as goal

pub seek_within-requires-clause-between : goal.seek_within-requires-clause-between
seek_within-requires-clause-between c =
    let t = c.args.spans.now in
    let high = c.loop-high.high in
    let long = lasts_length t in
    record {
      order = omega arith;
      upto = omega (arith, c.loop-high-test.true, long);
      under = c.loop-high.invariant.2.under;
      rest = λ i h k. omega (arith, climb _ c.requires.climbs high i h k, last_at t high, c.if-spans-high.true);
    }

pub loop-high-preserved : goal.loop-high-preserved
loop-high-preserved c =
    let t = c.args.spans.now in
    let high = c.loop-high.high in
    let long = lasts_length t in (
      omega arith,
      omega arith,
      record {
        order = omega (arith, c.loop-high-test.true, long);
        upto = omega arith;
        under = λ i h. omega (arith, climb _ c.requires.climbs i high (omega arith) (omega (arith, c.loop-high-test.true, long)), last_at t high, c.if-spans-high.false);
        rest = c.loop-high.invariant.2.rest;
      },
    )
