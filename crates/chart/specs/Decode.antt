-- The chart that a run of bytes has: specs/Bytes.antt read the other way. And the bars and strokes that the code reads.
use Rattle.std.specs.Prelude.{List, [], ◌∷◌, map, ℕ, zero, suc, ◌+◌, ◌*◌, ◌-◌, ◌%◌, get_or, Option, Some, None}
use Rattle.polygon.specs.Polygon.{Edge, ◌—◌}
use Rattle.codec.specs.Numbers.{get16}
use Rattle.chart.specs.declared.Bar as code-bar
use Rattle.chart.specs.declared.Stroke as code-stroke
use Rattle.chart.specs.Chart.{Bar, Stroke, upright, level, Chart}

-- "Rows, columns, n, two bytes each."
abbrev pub count_in : List ℕ → ℕ
count_in s = get16 s 4

-- "Per corner: row, left, right column, two bytes each."
abbrev pub bar_at : List ℕ → ℕ → Bar
bar_at s at = record { row = get16 s at; left = get16 s (at + 2); right = get16 s (at + 4) }

-- "a map byte, a, b, and, if bit 0 stands (upright), the column; two bytes a number": the bytes of a stroke by its map byte, and the stroke at a place
abbrev pub stroke_size : ℕ → ℕ
stroke_size m = 5 + 2 * (m % 2)

unfoldable pub shaped : ℕ → Edge → ℕ → Stroke
shaped zero e j = level e
shaped (suc b) e j = upright e j

abbrev pub corners_at : List ℕ → ℕ → Edge
corners_at s at = get16 s (at + 1) — get16 s (at + 3)

abbrev pub stroke_at : List ℕ → ℕ → Stroke
stroke_at s at = shaped (get_or s at 0 % 2) (corners_at s at) (get16 s (at + 5))

-- k strokes from a place on: the places at which they start, and the place behind them
unfoldable pub places : List ℕ → ℕ → ℕ → List ℕ
places s at zero = []
places s at (suc k) = at ∷ places s (at + stroke_size (get_or s at 0)) k

unfoldable pub behind : List ℕ → ℕ → ℕ → ℕ
behind s at zero = at
behind s at (suc k) = behind s (at + stroke_size (get_or s at 0)) k

-- "Then 2n-3 strokes"
abbrev pub stroke_places : List ℕ → List ℕ
stroke_places s = places s (6 + 6 * count_in s) (2 * count_in s - 3)

abbrev pub strokes_end : List ℕ → ℕ
strokes_end s = behind s (6 + 6 * count_in s) (2 * count_in s - 3)

-- the chart
abbrev pub chart_in : List ℕ → Chart
chart_in s = record { rows = get16 s 0; columns = get16 s 2; n = count_in s; bar = λ x. bar_at s (6 + 6 * x); strokes = map (stroke_at s) (stroke_places s) }

-- a bar by its row, left and right column
abbrev pub bar_on : ℕ → ℕ → ℕ → Bar
bar_on r i j = record { row = r; left = i; right = j }

-- a bar and a stroke as the code holds them, and as they are
abbrev pub record_of : Bar → code-bar.Bar
record_of b = record { row = b.row; left = b.left; right = b.right }

abbrev pub bar_of : code-bar.Bar → Bar
bar_of r = record { row = r.row; left = r.left; right = r.right }

abbrev pub drawn_as : Edge → Option ℕ → Stroke
drawn_as e None = level e
drawn_as e (Some j) = upright e j

abbrev pub stroke_of : code-stroke.Stroke → Stroke
stroke_of r = drawn_as (r.a — r.b) r.column
