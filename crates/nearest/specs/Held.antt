-- How the code holds a cell and a chart's bytes, for its contracts.
use Rattle.std.specs.Prelude.{◌≡◌, List, ℕ, ◌+◌, ◌*◌, ◌≤◌, ◌<◌, length}
use Rattle.chart.specs.Decode.{count_in}
use Rattle.nearest.specs.declared.Cell.{Cell}

-- numbers of a cell of two bytes
abbrev pub SmallCell : Cell → Type 0
SmallCell p = (p.row < 65536) × (p.column < 65536)

-- there is room for the bars of n corners
pub record Bars (s : List ℕ) (n : ℕ) : Type 0 where
  pub count : n ≡ count_in s
  pub room : 6 + 6 * n ≤ length s
