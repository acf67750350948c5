-- By the side on which the second cell lies; between two cells side by side there is none.
use native.Mathlib.Omega.{arith}
use Rattle.nearest.proofs.Spans.{row_none}
use Rattle.nearest.proofs.question.in_row.Goals as goal

pub returns : goal.returns
returns c =
    let (p, q, row) = c.requires.cells in
    row_none _ _ c.requires.tables.0 c.args.p c.args.q row p.1 q.1 (λ a A. absurd (omega arith))
