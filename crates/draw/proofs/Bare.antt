-- The chart and the line of a part do not depend on its angles.
use mathlib.Core.Path.{◌≡◌, refl, ap}
use mathlib.Core.List.{List}
use mathlib.Core.Option.{Option}
use Prim.Native.Nat.{ℕ}
use Rattle.polygon.specs.Polygon.{Polygon, bare}
use Rattle.sheet.specs.Sheet.{Reading, refused, held}
use Rattle.sheet.proofs.Hand.{bared}
use Rattle.chart.specs.Chart.{chart_of}
use Rattle.chart.proofs.Theorems.{chart_bare}
use Rattle.log_line.specs.Line.{line}
use Rattle.draw.specs.Answer.{charted}
use Rattle.draw.specs.Label.{charted_within, charted_both_within}
use Rattle.draw.specs.Printed.{facts_of, printed_of}
use Rattle.draw.specs.Program.{saved_of, output_of}

-- what the line tells of a part
pub facts_bare : (p : Polygon) → facts_of (bare p) ≡ facts_of p
facts_bare p = rw (chart_bare p)

-- what Draw writes of a reading, with any limit, and with the bar list
pub charted_bare : (limit : Option ℕ) (q : Reading) → charted_within limit (bared q) ≡ charted_within limit q
unfolding charted_within bared
charted_bare limit (refused k) = refl
charted_bare limit (held p) = rw (chart_bare p)

pub both_bare : (limit : Option ℕ) (q : Reading) → charted_both_within limit (bared q) ≡ charted_both_within limit q
unfolding charted_both_within bared
both_bare limit (refused k) = refl
both_bare limit (held p) = rw (chart_bare p)

-- the line, and what the program does with a reading
pub printed_bare : (q : Reading) → printed_of (bared q) ≡ printed_of q
unfolding printed_of bared
printed_bare (refused k) = refl
printed_bare (held p) = ap line (facts_bare p)

pub output_bare : (q : Reading) (chart text : List ℕ) → output_of (bared q) chart text ≡ output_of q chart text
unfolding output_of saved_of charted printed_of bared chart_of
output_bare (refused k) chart text = refl
output_bare (held p) chart text = refl
