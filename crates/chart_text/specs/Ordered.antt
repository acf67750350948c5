-- How the code puts the strokes in order: a key for each, where it stands and then its number, below 2,048. For the contracts.
use mathlib.Core.List.{List, map, flat_map}
use Rattle.std.specs.Prelude.{ℕ, ◌+◌, ◌*◌, ◌%◌, length, get_or}
use Rattle.lists.specs.Lists.{below}
use Rattle.chart.specs.Chart.{Stroke}
use Rattle.chart.specs.Decode.{stroke_at, chart_in}
use Rattle.chart_text.specs.Text.{stroke_line, standing}

module _ (s at : List ℕ) where
  -- the stroke of a number, by the places of the strokes, and its key
  abbrev pub stroke_no : ℕ → Stroke
  stroke_no i = stroke_at s (get_or at i 0)

  abbrev pub key_for : ℕ → ℕ
  key_for i = standing (chart_in s) (stroke_no i) * 2048 + i

  -- the keys of all strokes, in the chart's order
  abbrev pub stroke_keys : List ℕ
  stroke_keys = map key_for (below (length at))

  -- the strokes that keys number, and their lines
  abbrev pub strokes_of : List ℕ → List Stroke
  strokes_of ks = map (λ k. stroke_no (k % 2048)) ks

  abbrev pub key_lines : List ℕ → List ℕ
  key_lines ks = flat_map (stroke_line (chart_in s)) (strokes_of ks)
