-- Whether two kinds of cells have a cell in common: decisions. What each decides is its type; they compute with areas.
-- Those that rest on what stands between two cells are in proofs/Areas.antt.
use Rattle.std.specs.Prelude.{ℕ, suc, ◌≤◌, ◌<◌, min, max}
use Rattle.std.proofs.Common.{arith}
use Rattle.std.proofs.Math.Decide.{dec_lt, ℕ_discrete}
use Rattle.lists.specs.Lists.{choose, recast?}
use Rattle.chart.specs.Chart.{Bar}
use Rattle.nearest.specs.declared.Cell.{Cell}
use Rattle.nearest.specs.Cells.{cell, HasCell, CommonCell}

-- the cells of the rows from `top` to before `bottom` in the columns from `left` to before `right`
pub record Area : Type 0 where
  pub top : ℕ
  pub bottom : ℕ
  pub left : ℕ
  pub right : ℕ

-- the cell lies in the area
abbrev pub InArea : Area → Cell → Type 0
InArea a c = (a.top ≤ c.row) × (c.row < a.bottom) × (a.left ≤ c.column) × (c.column < a.right)

unfoldable pub common? : (a b : Area) → Dec (CommonCell (InArea a) (InArea b))
common? a b = go (dec_lt (max a.top b.top) (min a.bottom b.bottom)) (dec_lt (max a.left b.left) (min a.right b.right))
  where
    go : Dec (max a.top b.top < min a.bottom b.bottom) → Dec (max a.left b.left < min a.right b.right) → Dec (CommonCell (InArea a) (InArea b))
    go (yes h) (yes k) = yes (cell (max a.top b.top) (max a.left b.left), omega arith, omega arith)
    go (no h) k = no (λ x. h (omega (arith, x.1, x.2)))
    go (yes h) (no k) = no (λ x. k (omega (arith, x.1, x.2)))

-- a kind of cells that fills an area
pub record Fills (P : Cell → Type 0) (a : Area) : Type 0 where
  pub covered : (c : Cell) → P c → InArea a c
  pub filled : (c : Cell) → InArea a c → P c

unfoldable pub common_of : {P Q : Cell → Type 0} (a b : Area) → Fills P a → Fills Q b → Dec (CommonCell P Q)
common_of a b F G = recast? (λ x. (x.0, F.filled x.0 x.1, G.filled x.0 x.2)) (λ x. (x.0, F.covered x.0 x.1, G.covered x.0 x.2)) (common? a b)

-- the cells of a bar
abbrev pub bar_area : Bar → Area
bar_area b = record { top = b.row; bottom = suc b.row; left = b.left; right = suc b.right }

pub bar_fills : (b : Bar) → Fills (HasCell b) (bar_area b)
bar_fills b = record { covered = λ c h. omega arith; filled = λ c h. omega arith }

-- the cells between two cells
abbrev pub row_area : Cell × Cell → Area
row_area e = record { top = e.0.row; bottom = suc e.0.row; left = suc (min e.0.column e.1.column); right = max e.0.column e.1.column }

abbrev pub column_area : Cell × Cell → Area
column_area e = record { top = suc (min e.0.row e.1.row); bottom = max e.0.row e.1.row; left = e.0.column; right = suc e.0.column }

abbrev pub nowhere : Area
nowhere = record { top = 0; bottom = 0; left = 0; right = 0 }

unfoldable pub between : Cell × Cell → Area
between e = choose (ℕ_discrete e.0.row e.1.row) (row_area e) (choose (ℕ_discrete e.0.column e.1.column) (column_area e) nowhere)

-- whether two bars share a cell
unfoldable pub shares? : (b d : Bar) → Dec (CommonCell (HasCell b) (HasCell d))
shares? b d = common_of (bar_area b) (bar_area d) (bar_fills b) (bar_fills d)
