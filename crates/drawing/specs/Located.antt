-- The columns and rows of a part's drawing as the code holds them.
use Rattle.std.specs.Prelude.{◌≡◌, List, map, ℕ, suc, ◌-◌, ◌*◌, ◌<◌, length, take, get_or}
use Rattle.polygon.specs.Edges.{edges}
use Rattle.polygon.specs.Tree.{Tree}
use Rattle.umbrella.specs.Plan.{levels}
use Rattle.umbrella.specs.Best.{best}
use Rattle.keys.specs.Keys.{edges_of}
use Rattle.tree.specs.Table.{edge_at}
use Rattle.chart.specs.Places.{cols, rows}
use Rattle.chart.specs.Chart.{corner_rows}
use Rattle.drawing.specs.declared.Size.{Size}

-- of the part with n corners and the tree t: all its edges, the place of each column's upright among them, the row of each corner, how many columns and rows
pub record Located (n : ℕ) (t : Tree) (tr columns ranks : List ℕ) (s : Size) : Type 0 where
  pub listed : edges_of (take (2 * n - 3) tr) ≡ edges 0 t
  pub among : (j : ℕ) → j < s.columns → get_or columns j 0 < 2 * n - 3
  pub uprights : map (edge_at tr) (take s.columns columns) ≡ cols (best t) 0 (n - 1)
  pub few : s.columns < 2 * n
  pub width : s.columns ≡ length (cols (best t) 0 (n - 1))
  pub corners : take n ranks ≡ corner_rows (rows (best t))
  pub height : s.rows ≡ suc (2 * levels (best t))
  pub tree_kept : length tr ≡ 3072
  pub columns_kept : length columns ≡ 2048
  pub ranks_kept : length ranks ≡ 1024
