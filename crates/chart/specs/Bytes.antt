-- Document 01, "The chart's bytes". "Numbers are unsigned, high byte first."
use mathlib.Core.List.{List, ◌∷◌, ◌++◌, flat_map}
use Rattle.std.specs.Prelude.{ℕ, ◌<◌}
use Rattle.lists.specs.Lists.{All}
use Rattle.codec.specs.Numbers.{bytes16}
use Rattle.chart.specs.Chart.{Bar, Stroke, upright, level, Chart, bars_of}

-- "Per corner: row, left, right column, two bytes each."
unfoldable pub bar_bytes : Bar → List ℕ
bar_bytes b = bytes16 b.row ++ (bytes16 b.left ++ bytes16 b.right)

-- "a map byte, a, b, and, if bit 0 stands (upright), the column; two bytes a number. Bits 1 to 7 are clear."
unfoldable pub stroke_bytes : Stroke → List ℕ
stroke_bytes (upright e j) = 1 ∷ (bytes16 e.0 ++ (bytes16 e.1 ++ bytes16 j))
stroke_bytes (level e) = 0 ∷ (bytes16 e.0 ++ bytes16 e.1)

-- "Rows, columns, n, two bytes each", then the bars, "then 2n-3 strokes"
unfoldable pub bytes_of : Chart → List ℕ
bytes_of c = bytes16 c.rows ++ (bytes16 c.columns ++ (bytes16 c.n ++ (flat_map bar_bytes (bars_of c) ++ flat_map stroke_bytes c.strokes)))

-- "two bytes a number": every number of the chart is below 65,536
unfoldable pub StrokeFits : Stroke → Type 0
StrokeFits (upright e j) = (e.0 < 65536) × (e.1 < 65536) × (j < 65536)
StrokeFits (level e) = (e.0 < 65536) × (e.1 < 65536)

pub record Fits (c : Chart) : Type 0 where
  pub rows : c.rows < 65536
  pub columns : c.columns < 65536
  pub corners : c.n < 65536
  pub bars : (x : ℕ) → x < c.n → ((c.bar x).row < 65536) × ((c.bar x).left < 65536) × ((c.bar x).right < 65536)
  pub strokes : All StrokeFits c.strokes
