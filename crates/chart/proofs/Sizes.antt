-- How many bars a chart has, and how many bytes its bars and its strokes take.
use mathlib.Core.Path.{◌≡◌, refl, ◌∙◌}
use mathlib.Core.List.{List, [], ◌∷◌, flat_map}
use Prim.Native.Nat.{◌+◌, ◌*◌, ◌≤◌}
use native.Mathlib.Omega.{arith}
use lib.ListN.{length, length-append, length-map}
use Rattle.lists.specs.Lists.{below}
use Rattle.lists.proofs.Places.{below_count}
use Rattle.chart.specs.Chart.{Bar, Stroke, upright, level, Chart, bars_of}
use Rattle.chart.specs.Bytes.{bar_bytes, stroke_bytes, bytes_of}

-- a bar for each corner
pub bars_count : (c : Chart) → length (bars_of c) ≡ c.n
unfolding bars_of
bars_count c = length-map (below c.n) c.bar ∙ below_count c.n

-- six bytes a bar, at most seven a stroke
pub bars_size : (bs : List Bar) → length (flat_map bar_bytes bs) ≡ 6 * length bs
unfolding flat_map bar_bytes
bars_size [] = refl
bars_size (b ∷ bs) = omega (arith, bars_size bs)

strokes_size : (ss : List Stroke) → length (flat_map stroke_bytes ss) ≤ 7 * length ss
unfolding stroke_bytes flat_map
strokes_size [] = omega arith
strokes_size (upright e j ∷ ss) = omega (arith, strokes_size ss)
strokes_size (level e ∷ ss) = omega (arith, strokes_size ss)

-- the whole chart, behind its rows, columns and corners
pub bytes_length : (c : Chart) → length (bytes_of c) ≡ 6 + 6 * c.n + length (flat_map stroke_bytes c.strokes)
unfolding bytes_of
bytes_length c = omega (arith, length-append (flat_map bar_bytes (bars_of c)) (flat_map stroke_bytes c.strokes), bars_size (bars_of c), bars_count c)

pub bytes_size : (c : Chart) → (6 + 6 * c.n ≤ length (bytes_of c)) × (length (bytes_of c) ≤ 6 + 6 * c.n + 7 * length c.strokes)
bytes_size c = omega (arith, bytes_length c, strokes_size c.strokes)
