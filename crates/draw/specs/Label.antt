-- Request (ii), "The label printer": "One customer prints on labels of fifteen rows. The printer calls the same drawing with its own limit, while the tape keeps 1,024 corners and all its rows."
-- "(Refusal 19, label calls only: the chart has more than fifteen rows; after 7 and before 8.)" And request (v): "The label's limit counts closed rows." `chart_of` is the chart closed up.
use Rattle.std.specs.Prelude.{◌≡◌, List, ℕ, ◌≤◌, ◌<◌}
use Rattle.std.proofs.Math.Option.{Option, none, some}
use Rattle.std.proofs.Math.Decide.{dec_le}
use Rattle.lists.specs.Lists.{choose}
use Rattle.polygon.specs.Polygon.{Polygon}
use Rattle.codec.specs.Answer.{Outcome, refuse, write}
use Rattle.codec.specs.TwoOutputs.{BothOutcome, refuse_both, write_both, BothAnswer, written_both}
use Rattle.sheet.specs.Sheet.{Reading, refused, held, read_sheet}
use Rattle.chart.specs.Chart.{Bar, bars_of, chart_of}
use Rattle.chart.specs.Bytes.{bytes_of}

-- the most rows that a chart may have; the tape has no such limit
abbrev pub tape : Option ℕ
tape = none

abbrev pub label : Option ℕ
label = some 15

-- so many rows keep a limit
abbrev pub Keeps : Option ℕ → ℕ → Type 0
Keeps none rows = Unit {0}
Keeps (some most) rows = rows ≤ most

unfoldable pub keeps? : (limit : Option ℕ) (rows : ℕ) → Dec (Keeps limit rows)
keeps? none rows = yes tt
keeps? (some most) rows = dec_le rows most

-- the same drawing with a limit: 19 after the tests of the sheet, and before the output is looked at
unfoldable pub charted_within : Option ℕ → Reading → Outcome
charted_within limit (refused k) = refuse k
charted_within limit (held p) = choose (keeps? limit (chart_of p).rows) (write (bytes_of (chart_of p))) (refuse 19)

unfoldable pub charted_both_within : Option ℕ → Reading → BothOutcome Bar
charted_both_within limit (refused k) = refuse_both k
charted_both_within limit (held p) = choose (keeps? limit (chart_of p).rows) (write_both (bytes_of (chart_of p)) (bars_of (chart_of p))) (refuse_both 19)

-- the label's calls: without the bar list what is to be written of a sheet, and with it
unfoldable pub labelled : List ℕ → Outcome
labelled s = charted_within label (read_sheet s)

unfoldable pub labelled_with_bars : List ℕ → List ℕ → List Bar → BothAnswer Bar
labelled_with_bars s out bars = written_both (charted_both_within label (read_sheet s)) out bars

-- "the chart has more than fifteen rows"
abbrev pub Tall : List ℕ → Type 0
Tall s = (p : Polygon) × (read_sheet s ≡ held p) × (15 < (chart_of p).rows)
