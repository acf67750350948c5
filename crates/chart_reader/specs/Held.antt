-- How the code holds a chart, for its contracts.
use Rattle.std.specs.Prelude.{◌≡◌, List, ℕ, ◌+◌, ◌*◌, ◌≤◌, ◌<◌, length, get_or}
use Rattle.lists.specs.Lists.{All}
use Rattle.polygon.specs.Polygon.{Edge, Ascending}
use Rattle.chart.specs.Chart.{Bar, Chart}
use Rattle.chart.specs.Decode.{count_in, places, behind, stroke_places, stroke_of}
use Rattle.chart.specs.declared.Stroke as code
use Rattle.nearest.specs.Held.{SmallCell}
use Rattle.chart_reader.specs.declared.Ends.{Ends}
use Rattle.chart_reader.specs.Formed.{Formed}
use Rattle.chart_reader.specs.Rules.{ends}

-- the map bytes of k strokes have at most bit 0, and the strokes end where the bytes end
pub record Ending (s : List ℕ) (from k : ℕ) : Type 0 where
  pub bits : All (λ at. get_or s at 0 < 2) (places s from k)
  pub exact : behind s from k ≡ length s

-- the bytes of a chart of n corners, with the places of its strokes
pub record StrokesFound (s : List ℕ) (n : ℕ) (at : List ℕ) : Type 0 where
  pub formed : Formed s
  pub count : n ≡ count_in s
  pub strokes : at ≡ stroke_places s

-- the bar has a cell in column j
abbrev pub HasColumn : Bar → ℕ → Type 0
HasColumn b j = (b.left ≤ j) × (j ≤ b.right)

-- the corners of a stroke that was read are below n
pub record StrokeIn (n : ℕ) (t : code.Stroke) : Type 0 where
  pub low : t.a < n
  pub high : t.b < n

-- the two cells that it runs between
pub record EndsOf (c : Chart) (t : code.Stroke) (r : Ends) : Type 0 where
  pub same : (r.first, r.last) ≡ ends c (stroke_of t)
  pub first_small : SmallCell r.first
  pub last_small : SmallCell r.last

-- the edges of a chart of n corners that keeps the rule of strokes
pub record EdgesOf (n : ℕ) (es : List Edge) : Type 0 where
  pub least : 3 ≤ n
  pub named : All (λ e. (e.0 < e.1) × (e.1 < n)) es
  pub ascending : Ascending es
  pub count : length es + 3 ≡ 2 * n
