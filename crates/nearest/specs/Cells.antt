-- Cells of a chart, and the one question that the reader asks about them: does a bar stand between two cells of a row or of a column?
use Rattle.std.specs.Prelude.{◌≡◌, ◌⊎◌, ℕ, ◌≤◌, ◌<◌, min, max}
use Rattle.chart.specs.Chart.{Bar}
use Rattle.nearest.specs.declared.Cell.{Cell}

abbrev pub cell : ℕ → ℕ → Cell
cell r j = record { row = r; column = j }

-- the bar has the cell
abbrev pub HasCell : Bar → Cell → Type 0
HasCell b c = (b.row ≡ c.row) × (b.left ≤ c.column) × (c.column ≤ b.right)

-- x is strictly between a and b
abbrev pub Amid : ℕ → ℕ → ℕ → Type 0
Amid a b x = (min a b < x) × (x < max a b)

-- the cell lies between two cells of its row, or of its column; neither of the two counts
abbrev pub Inside : Cell × Cell → Cell → Type 0
Inside e c = ((e.0.row ≡ c.row) × (e.1.row ≡ c.row) × Amid e.0.column e.1.column c.column)
    ⊎ ((e.0.column ≡ c.column) × (e.1.column ≡ c.column) × Amid e.0.row e.1.row c.row)

-- some cell is of both kinds
abbrev pub CommonCell : (Cell → Type 0) → (Cell → Type 0) → Type 0
CommonCell P Q = (c : Cell) × P c × Q c

-- a bar stands between two cells of a row or of a column: it has a cell between them
abbrev pub Stands : Cell × Cell → Bar → Type 0
Stands e b = CommonCell (Inside e) (HasCell b)
