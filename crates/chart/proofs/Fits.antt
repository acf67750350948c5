-- Every number of the chart of a part of at most 1,024 corners fits two bytes.
-- Rests on the bounds of a plan's umbrellas and stems, and on truth: a bar lies within rows and columns, a stroke's corners are corners, an upright's column is in a bar.
use Prim.Native.Nat.{◌≤◌, ◌<◌}
use native.Mathlib.Omega.{arith}
use Rattle.lists.specs.Lists.{Mem}
use Rattle.lists.proofs.Lists.{all_of}
use Rattle.polygon.specs.Tree.{Tree, span}
use Rattle.umbrella.specs.Plan.{Plan}
use Rattle.umbrella.proofs.Bounds.{bounds}
use Rattle.chart.specs.Chart.{Stroke, level, upright, Chart, chart, closed, True}
use Rattle.chart.specs.Bytes.{Fits, StrokeFits}
use Rattle.chart.proofs.Charts.{chart_true, chart_size}
use Rattle.chart.proofs.Closing.{closed_true, closed_rows_most}

-- a true chart that is not too large
true_fits : (c : Chart) → True c → c.rows < 65536 → c.columns < 65536 → c.n < 65536 → Fits c
unfolding StrokeFits
true_fits c T hr hc hn = record {
  rows = hr;
  columns = hc;
  corners = hn;
  bars = λ x h. let (a, b, d) = T.bars x h in (omega arith, omega arith, omega arith);
  strokes = all_of c.strokes fits;
}
  where
    fits : (s : Stroke) → Mem s c.strokes → StrokeFits s
    fits (level e) m = let (a, b, d, f) = T.levels e m in (omega arith, omega arith)
    fits (upright e j) m =
        let (a, b, d, f, g, z) = T.uprights e j m in
        let (l, r, k) = T.bars e.0 a in
        (omega arith, omega arith, omega arith)

pub chart_fits : {t : Tree} (p : Plan t) → 2 ≤ span t → span t ≤ 1023 → Fits (closed (chart p))
unfolding closed
chart_fits {t} p h k =
    let b = bounds p in
    let (n, r, c) = chart_size p in
    true_fits (closed (chart p)) (closed_true (chart p) (chart_true p h)) (omega (arith, closed_rows_most (chart p))) (omega arith) (omega arith)
