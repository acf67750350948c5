-- Request (x): "The small question behind the chart reader, .., whether a bar stands between two cells of a row or column, neither cell counted, now answers with the corner of such a bar nearest the first cell
-- (the lowest if bars share a cell), or none exactly if there is no such bar." Cells.antt says when a bar stands between two cells. The bars are any n of them, tested or not: one with left > right has no cell.
use Rattle.std.specs.Prelude.{List, [], ◌∷◌, Option, Some, None, ℕ, ◌+◌, ◌-◌, ◌≤◌, ◌<◌, min, max}
use Rattle.std.proofs.Math.Decide.{dec_le, ℕ_discrete}
use Rattle.lists.specs.Lists.{choose, numbers, below, three?}
use Rattle.chart.specs.Chart.{Bar}
use Rattle.nearest.specs.declared.Cell.{Cell}
use Rattle.nearest.specs.Cells.{cell, HasCell, Inside}

-- "the corner .. or none"
pub data Found : Type 0 where
  none : Found
  bar : ℕ → Found

-- how far a cell is from another of its row or column
abbrev pub apart : ℕ → ℕ → ℕ
apart a b = max a b - min a b

abbrev pub away : Cell → Cell → ℕ
away p d = apart p.row d.row + apart p.column d.column

-- what the answer is to be: x is the corner of a bar that stands between the two cells, none is nearer the first, and of those that share its cell x is the lowest
pub record IsNearest (bars : ℕ → Bar) (n : ℕ) (e : Cell × Cell) (x : ℕ) : Type 0 where
  pub corner : x < n
  -- its cell nearest the first
  pub at : Cell
  pub between : Inside e at
  pub has : HasCell (bars x) at
  pub least : (y : ℕ) → y < n → (d : Cell) → Inside e d → HasCell (bars y) d → away e.0 at ≤ away e.0 d
  pub lowest : (y : ℕ) → y < n → HasCell (bars y) at → x ≤ y

-- How it is found: "follow a line with a finger", from the first cell to the second, and stop at the first cell with a bar.
-- k steps from a towards b
unfoldable pub toward : ℕ → ℕ → ℕ → ℕ
toward a b k = choose (dec_le a b) (min (a + k) b) (max (a - k) b)

abbrev pub step : Cell × Cell → ℕ → Cell
step e k = cell (toward e.0.row e.1.row k) (toward e.0.column e.1.column k)

-- how many cells lie between two cells of a row or of a column
unfoldable pub steps : Cell × Cell → ℕ
steps e = choose (ℕ_discrete e.0.row e.1.row) (apart e.0.column e.1.column - 1) (choose (ℕ_discrete e.0.column e.1.column) (apart e.0.row e.1.row - 1) 0)

-- what is found first
unfoldable pub or_else : Found → Found → Found
or_else none g = g
or_else (bar x) g = bar x

unfoldable pub first : (ℕ → Found) → List ℕ → Found
first f [] = none
first f (k ∷ ks) = or_else (f k) (first f ks)

unfoldable pub has? : (b : Bar) (c : Cell) → Dec (HasCell b c)
has? b c = three? (ℕ_discrete b.row c.row) (dec_le b.left c.column) (dec_le c.column b.right)

-- the lowest corner whose bar has the cell
unfoldable pub lowest_at : (ℕ → Bar) → ℕ → Cell → Found
lowest_at bars n c = first (λ x. choose (has? (bars x) c) (bar x) none) (below n)

-- the answer; proofs/Theorems.antt holds it against `IsNearest`
unfoldable pub nearest : (ℕ → Bar) → ℕ → Cell × Cell → Found
nearest bars n e = first (λ k. lowest_at bars n (step e k)) (numbers (steps e) 1)

-- the paper's answer of each case of the code's
abbrev pub found_of : Option ℕ → Found
found_of None = none
found_of (Some x) = bar x
