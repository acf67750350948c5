-- Request (v) is proved, from the theorems of the crates chart and chart_reader.
use mathlib.Core.Path.{◌≡◌, refl}
use mathlib.Core.List.{List}
use Prim.Native.Nat.{ℕ}
use Rattle.polygon.specs.Polygon.{Polygon, bare, Valid}
use Rattle.polygon.proofs.Reading.{bare_valid}
use Rattle.codec.specs.Answer.{write}
use Rattle.sheet.specs.Sheet.{held, read_sheet, normal_sheet}
use Rattle.sheet.proofs.Valid.{read_valid}
use Rattle.umbrella.specs.Best.{plan_of}
use Rattle.chart.specs.Chart.{Chart, chart, closed, chart_of, True, Shows}
use Rattle.chart.specs.Bytes.{bytes_of}
use Rattle.chart.proofs.Theorems.{closes_up, placed_is_true, placed_shows, chart_triangle, chart_two_rows, chart_one_umbrella, chart_rows_most, chart_rows_least, chart_rows_no_stem, chart_no_empty_row}
use Rattle.chart_reader.specs.Reader.{chart_read}
use Rattle.chart_reader.proofs.Theorems.{writes}
use Rattle.draw.specs.Answer.{charted, drawn}
use Rattle.draw.specs.Printed.{printed_of, printed}
use Rattle.promises.specs.RowsWithoutBars.{RowsWithoutBars}

-- a true chart that shows a part is read as it
reads_as : (p : Polygon) → Valid (bare p) → (c : Chart) → True c → Shows c (bare p) → chart_read (bytes_of c) ≡ write (normal_sheet (bare p))
reads_as p w c T S = writes (bytes_of c) (bare p) (record { valid = w; bare = refl; chart = c; bytes = refl; is_true = T; shows = S })

pub rows_without_bars : (s : List ℕ) (p : Polygon) → read_sheet s ≡ held p → RowsWithoutBars s p
unfolding drawn charted printed printed_of chart_of closed
rows_without_bars s p reads =
    let v = read_valid s p reads in
    let w = bare_valid p v in
    record {
      drawing = rw reads;
      closing = closes_up (chart (plan_of p));
      triangle = chart_triangle p v;
      flat = chart_two_rows p v;
      one_umbrella = chart_one_umbrella p v;
      ceiling = chart_rows_most p v;
      floor = chart_rows_least p v;
      no_stem = chart_rows_no_stem p v;
      log = rw reads;
      full = chart_no_empty_row p v;
      handed_in = reads_as p w (chart (plan_of p)) (placed_is_true p v) (placed_shows (bare p) w);
      any_handed_in = λ c T S. (reads_as p w c T S, reads_as p w (closed c) ((closes_up c).true T) ((closes_up c).shows (bare p) S));
    }
