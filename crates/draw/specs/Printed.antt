-- What the program prints of a sheet: "a log line" of its part, or the refusal.
use Rattle.std.specs.Prelude.{List, ℕ}
use Rattle.polygon.specs.Polygon.{Polygon}
use Rattle.sheet.specs.Sheet.{Reading, refused, held, read_sheet}
use Rattle.umbrella.specs.Plan.{levels, umbrellas, stems}
use Rattle.umbrella.specs.Best.{plan_of}
use Rattle.chart.specs.Chart.{chart_of}
use Rattle.log_line.specs.declared.Facts.{Facts}
use Rattle.log_line.specs.Line.{line, refused_line}

abbrev pub facts_of : Polygon → Facts
facts_of p = record {
  corners = p.n;
  levels = levels (plan_of p);
  umbrellas = umbrellas (plan_of p);
  stems = stems (plan_of p);
  rows = (chart_of p).rows;
  columns = (chart_of p).columns;
}

unfoldable pub printed_of : Reading → List ℕ
printed_of (refused k) = refused_line k
printed_of (held p) = line (facts_of p)

unfoldable pub printed : List ℕ → List ℕ
printed s = printed_of (read_sheet s)
