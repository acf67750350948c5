-- Corners, order, bars.
use mathlib.Core.Bool.{false≢true}
use lib.ListN.{length, take}
use Rattle.chart_reader.proofs.Keyed.{keys_ascend, keys_not}
use Rattle.chart_reader.proofs.strokes.strokes_keep.Goals as goal

pub returns-then-not-ascends : goal.returns-then-not-ascends
returns-then-not-ascends c = record {
  yes = λ h. absurd (false≢true h);
  no = λ h R. keys_not (take (length c.args.strokes.now.at.now) c.edge_keys.new.keys) _ c.ascends.result (c.edge_keys.ensures.yes c.if-not-edge_keys.false).1 c.ascends.ensures c.if-not-ascends.true R.1;
}

pub returns : goal.returns
returns c =
    let named = c.edge_keys.ensures.yes c.if-not-edge_keys.false in record { yes = λ h. ((named.0, keys_ascend (take (length c.args.strokes.now.at.now) c.edge_keys.new.keys) _ c.ascends.result named.1 c.ascends.ensures c.if-not-ascends.false, c.all_fit.ensures.yes h), named.1); no = λ h R. c.all_fit.ensures.no h R.2 }
