-- What the program bend does with its input, however long that is (document 01, "Operations and their refusals" and "Known parts"):
-- "A program reads a sheet on standard input, writes the chart to `bend.chart` and prints a log line." "A refusal prints `refused` and its number, as `refused 3`, and `bend.chart` is not written."
use Rattle.std.specs.Prelude.{List, ℕ, ◌≤◌, length, take, IfSome, Option as Given, Some, None}
use Rattle.std.proofs.Math.Option.{Option, none, some}
use Rattle.codec.specs.Answer.{write, written}
use Rattle.sheet.specs.Sheet.{Reading, refused, held, read_sheet}
use Rattle.chart.specs.Chart.{chart_of}
use Rattle.chart.specs.Bytes.{bytes_of}
use Rattle.draw.specs.declared.program.Shown.{Shown}
use Rattle.draw.specs.Answer.{charted}
use Rattle.draw.specs.Printed.{printed_of}

-- the chart that is saved, if one is, and the line that is printed; and the bytes that were lent for them, afterwards
pub record Output : Type 0 where
  pub saved : Option (List ℕ)
  pub line : List ℕ
  pub chart : List ℕ
  pub text : List ℕ

unfoldable pub saved_of : Reading → Option (List ℕ)
saved_of (refused k) = none
saved_of (held p) = some (bytes_of (chart_of p))

-- "A refusal .. changes no lent memory. Success gives 0; bytes .. beyond the result stay."
unfoldable pub output_of : Reading → List ℕ → List ℕ → Output
output_of r chart text = record { saved = saved_of r; line = printed_of r; chart = (written (charted r) chart).bytes; text = (written (write (printed_of r)) text).bytes }

-- what the program does with an input
unfoldable pub output : List ℕ → List ℕ → List ℕ → Output
output s chart text = output_of (read_sheet s) chart text

-- the values of the code's answer, with the lent bytes at its return; and that its lengths lie within these
abbrev pub front : Given ℕ → List ℕ → Option (List ℕ)
front None bytes = none
front (Some k) bytes = some (take k bytes)

abbrev pub shown : Shown → List ℕ → List ℕ → Output
shown r chart text = record { saved = front r.chart chart; line = take r.line text; chart = chart; text = text }

abbrev pub Lengths : Shown → List ℕ → List ℕ → Type 0
Lengths r chart text = IfSome r.chart (λ k. k ≤ length chart) × (r.line ≤ length text)
