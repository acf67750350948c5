-- Document 01, "Operations and their refusals": Draw gives the chart's bytes, their length, and the bars. "1 to 7; 8: either output too short." Request (xi) adds 23 to the tests of a sheet.
use Rattle.std.specs.Prelude.{List, ℕ}
use Rattle.codec.specs.Answer.{Outcome, refuse, write}
use Rattle.codec.specs.TwoOutputs.{BothOutcome, refuse_both, write_both, BothAnswer, written_both}
use Rattle.sheet.specs.Sheet.{Reading, refused, held, read_sheet}
use Rattle.chart.specs.Chart.{Bar, Chart, bars_of, chart_of}
use Rattle.chart.specs.Bytes.{bytes_of}

-- without the bar list: what is to be written of a sheet
unfoldable pub charted : Reading → Outcome
charted (refused k) = refuse k
charted (held p) = write (bytes_of (chart_of p))

unfoldable pub drawn : List ℕ → Outcome
drawn s = charted (read_sheet s)

-- with it: the chart's bytes and its bars, into a lent output and a lent list
unfoldable pub charted_both : Reading → BothOutcome Bar
charted_both (refused k) = refuse_both k
charted_both (held p) = write_both (bytes_of (chart_of p)) (bars_of (chart_of p))

abbrev pub into_both : Chart → List ℕ → List Bar → BothAnswer Bar
into_both c out bars = written_both (write_both (bytes_of c) (bars_of c)) out bars

unfoldable pub drawn_with_bars : List ℕ → List ℕ → List Bar → BothAnswer Bar
drawn_with_bars s out bars = written_both (charted_both (read_sheet s)) out bars
