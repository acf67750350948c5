use Rattle.std.proofs.Common.{◌+◌, arith}
use Rattle.std.proofs.lemmas.Option.{MatchOption-at_some}
use Rattle.chart_reader.proofs.Stroked.{bars_room, strokes_room}
use Rattle.chart_reader.proofs.frame.strokes_in.Goals as goal

pub invariant_of-result : goal.invariant_of-result
invariant_of-result c =
    let P = MatchOption-at_some _ _ _ c.in_ok-n.was c.frame.ensures in
    record {
      found = P;
      bars = bars_room _ _ _ P;
      sizes = (omega (arith, P.count, P.formed.least), omega (arith, P.count, P.formed.most), strokes_room _ _ _ P);
      small = (omega (arith, c.type_inv.chart 0, c.type_inv.chart 1), omega (arith, c.type_inv.chart 2, c.type_inv.chart (2 + 1)));
    }
