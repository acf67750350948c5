-- Document 01, "A chart is true when ..", as the rules that "Read a chart" tests, and the part that a chart shows. The rule of bars is in crate nearest, specs/BarRule.antt.
use Rattle.std.specs.Prelude.{◌≡◌, ◌≢◌, List, ◌∷◌, map, ℕ, suc, ◌-◌, ◌<◌, min, max}
use Rattle.lists.specs.Lists.{All, Mem, below, keep, numbers}
use Rattle.polygon.specs.Angles.{none}
use Rattle.polygon.specs.Polygon.{Edge, ◌—◌, Ascending, NoneCross, Polygon}
use Rattle.polygon.specs.Order.{diagonal?}
use Rattle.chart.specs.Chart.{Stroke, upright, level, stroke_edge, Chart, Covers}
use Rattle.nearest.specs.declared.Cell.{Cell}
use Rattle.nearest.specs.Cells.{cell, Inside, CommonCell, Stands}

-- "side i joins corner i to i+1, and side n-1, the root, joins n-1 to 0": the sides of n corners, ascending
unfoldable pub part_sides : ℕ → List Edge
part_sides n = (0 — 1) ∷ (0 — (n - 1)) ∷ map (λ i. i — suc i) (numbers (n - 2) 1)

-- 18: "not all sides, or diagonals cross": the edges es of n corners are those of a part
abbrev pub PartOf : ℕ → List Edge → Type 0
PartOf n es = All (λ e. Mem e es) (part_sides n) × NoneCross (keep (diagonal? n) es)

module _ (c : Chart) where
  -- 16: "a stroke's corners or order wrong": strokes come "ascending by (a,b), a < b"
  abbrev pub Named : Stroke → Type 0
  Named s = ((stroke_edge s).0 < (stroke_edge s).1) × ((stroke_edge s).1 < c.n)

  -- "or its bars don't fit": "a level stroke joins bars of one row ..; an upright's column lies in both bars, on different rows, .."
  abbrev pub Joins : Stroke → Type 0
  Joins (level e) = (c.bar e.0).row ≡ (c.bar e.1).row
  Joins (upright e j) = Covers c e.0 j × Covers c e.1 j × ((c.bar e.0).row ≢ (c.bar e.1).row)

  -- the two cells that a stroke runs between: an upright's in its column, on the rows of its bars; a level stroke's where its bars face each other, the right end of one and the left end of the other
  abbrev pub ends : Stroke → Cell × Cell
  ends (upright e j) = (cell (c.bar e.0).row j, cell (c.bar e.1).row j)
  ends (level e) = (cell (c.bar e.0).row (min (c.bar e.0).right (c.bar e.1).right), cell (c.bar e.1).row (max (c.bar e.0).left (c.bar e.1).left))

  -- ".. with no bar between"
  abbrev pub Free : Cell × Cell → Type 0
  Free e = All (λ z. ¬ Stands e (c.bar z)) (below c.n)

  abbrev pub BarsFit : Stroke → Type 0
  BarsFit s = Joins s × Free (ends s)

  abbrev pub StrokeRule : Type 0
  StrokeRule = All Named c.strokes × Ascending (map stroke_edge c.strokes) × All BarsFit c.strokes

  -- 17: "an upright in a level gap". "No upright passes through the gap of a level stroke, the cells of its row between its two bars."
  abbrev pub Passes : Stroke → Stroke → Type 0
  Passes (upright e j) (level f) = CommonCell (Inside (ends (upright e j))) (Inside (ends (level f)))
  Passes (upright e j) (upright f k) = ⊥
  Passes (level e) t = ⊥

  abbrev pub GapRule : Type 0
  GapRule = All (λ s. All (λ t. ¬ Passes s t) c.strokes) c.strokes

  -- the edges of the strokes, and the diagonals among them
  abbrev pub edges_in : List Edge
  edges_in = map stroke_edge c.strokes

  abbrev pub diagonals_in : List Edge
  diagonals_in = keep (diagonal? c.n) edges_in

  abbrev pub PartRule : Type 0
  PartRule = PartOf c.n edges_in

  -- the part that is shown; request (xi): "The chart doesn't depend on angles", so a chart read back has none
  abbrev pub part_in : Polygon
  part_in = record { n = c.n; ds = diagonals_in; angles = none }
