-- Request (v), "Rows without bars", sentence by sentence, for the chart drawn of a sheet s that holds the part p.
-- "Tape is bought by its height, and the trade counts only rows that carry a bar." `closed`, `NoEmptyRow` and `chart_of` are in crate chart, specs/Chart.antt; what closing up does to any chart is `ClosesUp`
-- (its specs/Closing.antt). `chart (plan_of p)` is the chart of the plan drawn by document 01's places, before it is closed up.
use Rattle.std.specs.Prelude.{◌≡◌, List, ℕ, ◌+◌, ◌*◌, ◌≤◌}
use Rattle.polygon.specs.Polygon.{Polygon, bare}
use Rattle.codec.specs.Answer.{write}
use Rattle.sheet.specs.Sheet.{normal_sheet}
use Rattle.umbrella.specs.Plan.{levels, umbrellas, stems}
use Rattle.umbrella.specs.Best.{plan_of}
use Rattle.umbrella.specs.Border.{NothingHung}
use Rattle.chart.specs.Chart.{Chart, chart, closed, NoEmptyRow, chart_of, True, Shows}
use Rattle.chart.specs.Bytes.{bytes_of}
use Rattle.chart.specs.Closing.{ClosesUp}
use Rattle.log_line.specs.Line.{line}
use Rattle.chart_reader.specs.Reader.{chart_read}
use Rattle.draw.specs.Answer.{drawn}
use Rattle.draw.specs.Printed.{printed}

pub record RowsWithoutBars (s : List ℕ) (p : Polygon) : Type 0 where
  -- "A chart leaves out each row without one and closes up."
  pub drawing : drawn s ≡ write (bytes_of (closed (chart (plan_of p))))
  pub closing : ClosesUp (chart (plan_of p))
  -- "The triangle now has 2 rows,"
  pub triangle : p.n ≡ 3 → (chart_of p).rows ≡ 2
  -- "and so has every part whose umbrella has no stem and nothing hung."
  pub flat : stems (plan_of p) ≡ 0 → NothingHung (plan_of p) → (chart_of p).rows ≡ 2
  -- and so by the counts in its log line: what is hung has an umbrella of its own
  pub one_umbrella : umbrellas (plan_of p) ≡ 1 → stems (plan_of p) ≡ 0 → (chart_of p).rows ≡ 2
  -- "The two rows a level and one more, in document 01 and in the mission's third demand, become a ceiling," and a row a level and one more is a floor
  pub ceiling : (chart_of p).rows ≤ 2 * levels (plan_of p) + 1
  pub floor : levels (plan_of p) + 1 ≤ (chart_of p).rows
  -- the floor is the number of rows where there is no stem
  pub no_stem : stems (plan_of p) ≡ 0 → (chart_of p).rows ≡ levels (plan_of p) + 1
  -- "the known parts' rows and the log line follow," (Known.antt has the known parts)
  pub log : printed s ≡ line (record {
    corners = p.n;
    levels = levels (plan_of p);
    umbrellas = umbrellas (plan_of p);
    stems = stems (plan_of p);
    rows = (closed (chart (plan_of p))).rows;
    columns = (chart (plan_of p)).columns;
  })
  -- "and a drawn chart never has an empty row."
  pub full : NoEmptyRow (chart_of p)
  -- "Charts handed in may still have them.": that of document 01's places is read as the part, and any true chart of it as that chart closed up is
  pub handed_in : chart_read (bytes_of (chart (plan_of p))) ≡ write (normal_sheet (bare p))
  pub any_handed_in : (c : Chart) → True c → Shows c (bare p) → (chart_read (bytes_of c) ≡ write (normal_sheet (bare p))) × (chart_read (bytes_of (closed c)) ≡ write (normal_sheet (bare p)))
