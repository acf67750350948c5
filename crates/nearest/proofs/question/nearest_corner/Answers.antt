-- What `nearest` says of the places, told of their corners (Spans.antt).
use Rattle.std.proofs.Common.{arith}
use Rattle.nearest.proofs.Seeking.{corner_at_lem, corners_length}
use Rattle.nearest.proofs.Spans.{corner_none, place_lt, corner_bar}
use Rattle.nearest.proofs.question.nearest_corner.Goals as goal

-- the place that was found is one of the table
pub offset_bounds-spans-i : goal.offset_bounds-spans-i
offset_bounds-spans-i c =
    let (bars, n, O) = c.requires.tables in
    omega (arith, place_lt bars n _ _ _ O (c.args.p, c.args.q) c.nearest.result _ c.in_ok-i.was c.nearest.ensures, corners_length c.args.spans.now)

pub bounds-spans-i : goal.bounds-spans-i
bounds-spans-i c =
    let (bars, n, O) = c.requires.tables in
    omega (arith, place_lt bars n _ _ _ O (c.args.p, c.args.q) c.nearest.result _ c.in_ok-i.was c.nearest.ensures, corners_length c.args.spans.now)

pub returns-in_err-i : goal.returns-in_err-i
returns-in_err-i c = λ bars n O.
    rw c.from_residual.ensures (corner_none bars n _ _ _ O (c.args.p, c.args.q) c.nearest.result c.in_err-i.was c.nearest.ensures)

pub returns : goal.returns
returns c = λ bars n O.
    rw corner_at_lem at (corner_bar bars n _ _ _ O (c.args.p, c.args.q) c.nearest.result _ c.in_ok-i.was c.nearest.ensures)
