-- The chart of a plan closed up: the rows of its bars, and the chart that comes of it.
use mathlib.Core.Path.{◌≡◌, sym, ap, subst}
use mathlib.Core.List.{map}
use Prim.Native.Nat.{◌+◌, ◌*◌, ◌≤◌, ◌<◌}
use Rattle.lists.specs.Lists.{Mem, All}
use Rattle.lists.proofs.Lists.{all_of}
use Rattle.polygon.specs.Tree.{Tree, span}
use Rattle.polygon.specs.Edges.{edges}
use Rattle.umbrella.specs.Plan.{Plan, levels}
use Rattle.chart.specs.Places.{cols, rows}
use Rattle.chart.specs.Chart.{Chart, corner_rows, layout, chart, bar_rows, closed_row, closed}
use Rattle.chart.proofs.Rows.{rows_length}
use Rattle.chart.proofs.Charts.{chart_true}
use Rattle.chart.proofs.Closing.{carried_row, layout_rows, closed_layout}

module _ {t : Tree} (p : Plan t) where
  -- its bars lie on the rows of its corners
  pub plan_bar_rows : bar_rows (chart p) ≡ corner_rows (rows p)
  unfolding chart
  plan_bar_rows = layout_rows (span t) (2 * levels p + 1) (rows p) (cols p 0 (span t)) (edges 0 t) (rows_length p)

  -- these are rows 0 to 2D
  pub plan_rows_inside : 2 ≤ span t → All (λ r. r < 2 * levels p + 1) (corner_rows (rows p))
  unfolding chart layout
  plan_rows_inside h =
      all_of (corner_rows (rows p)) (λ r m.
      let (x, k, e) = carried_row (chart p) r (subst (Mem r) (sym plan_bar_rows) m) in
      rw e at ((chart_true p h).bars x k).2)

  -- closed up it is laid out on the closed rows
  pub closed_plan : closed (chart p) ≡ layout (span t) (closed_row (corner_rows (rows p)) (2 * levels p + 1)) (map (closed_row (corner_rows (rows p))) (rows p)) (cols p 0 (span t)) (edges 0 t)
  unfolding chart
  closed_plan = closed_layout (span t) (2 * levels p + 1) (rows p) (cols p 0 (span t)) (edges 0 t) (rows_length p)

  -- as many rows as carry a bar
  pub closed_plan_rows : (closed (chart p)).rows ≡ closed_row (corner_rows (rows p)) (2 * levels p + 1)
  unfolding layout
  closed_plan_rows = ap (λ (c : Chart). c.rows) closed_plan
