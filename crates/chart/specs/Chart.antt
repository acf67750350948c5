-- The chart of a plan, when a chart is true, and when it shows a polygon. Document 004 calls a true chart a flat visibility representation.
use Rattle.std.specs.Prelude.{◌≡◌, ◌⊎◌, ◌≢◌, ◌↔◌, List, [], ◌∷◌, ◌++◌, map, reverse, ℕ, suc, ◌+◌, ◌-◌, ◌*◌, ◌≤◌, ◌<◌, length, get_or}
use Rattle.std.proofs.Math.Decide.{ℕ_discrete}
use Rattle.lists.specs.Lists.{Mem, keep, below, choose, either?, mem?}
use Rattle.polygon.specs.Polygon.{Edge, Ascending, Linked, Polygon}
use Rattle.polygon.specs.Order.{same?}
use Rattle.polygon.specs.Tree.{Tree, span}
use Rattle.umbrella.specs.Plan.{Plan, levels}
use Rattle.umbrella.specs.Best.{plan_of}
use Rattle.chart.specs.Places.{cols, rows}
use Rattle.polygon.specs.Edges.{edges}

-- the horizontal segment of a corner: its row, its first and its last column
pub record Bar : Type 0 where
  pub row : ℕ
  pub left : ℕ
  pub right : ℕ

-- the segment of an edge: upright in a column, or level
pub data Stroke : Type 0 where
  upright : Edge → ℕ → Stroke
  level : Edge → Stroke

unfoldable pub stroke_edge : Stroke → Edge
stroke_edge (upright e j) = e
stroke_edge (level e) = e

-- how many rows, columns and corners; the bar of each corner; the strokes
pub record Chart : Type 0 where
  pub rows : ℕ
  pub columns : ℕ
  pub n : ℕ
  pub bar : ℕ → Bar
  pub strokes : List Stroke

-- the bars of its corners 0 to n - 1
unfoldable pub bars_of : Chart → List Bar
bars_of c = map c.bar (below c.n)

-- the edge ends at x
abbrev pub Meets : ℕ → Edge → Type 0
Meets x e = (e.0 ≡ x) ⊎ (e.1 ≡ x)

unfoldable pub meets? : (x : ℕ) (e : Edge) → Dec (Meets x e)
meets? x e = either? (ℕ_discrete e.0 x) (ℕ_discrete e.1 x)

-- the first and the last of the columns us whose upright ends at x
unfoldable pub first : ℕ → List Edge → ℕ
first x [] = 0
first x (e ∷ us) = choose (meets? x e) 0 (suc (first x us))

unfoldable pub last : ℕ → List Edge → ℕ
last x us = (length us - 1) - first x (reverse us)

-- "Edges that are not upright are level": the stroke of e among the columns us, the first of which is column j.
unfoldable pub stroke : ℕ → List Edge → Edge → Stroke
stroke j [] e = level e
stroke j (f ∷ us) e = choose (same? e f) (upright e j) (stroke (suc j) us e)

-- "u and v lie on row 0": the rows of all corners of a piece, by those of its inner ones
abbrev pub corner_rows : List ℕ → List ℕ
corner_rows rs = 0 ∷ (rs ++ (0 ∷ []))

-- The chart of a piece (0,v) with h rows, by the rows of its inner corners, its columns and its edges. "A bar runs over all columns of its uprights, through its hung pieces and any space up to its next upright."
-- "In every piece, before any reversal, u's bar starts in the piece's first column and v's ends in its last." (`plan_piece_bars` in proofs/Theorems.antt: so in every piece.)
unfoldable pub layout : ℕ → ℕ → List ℕ → List Edge → List Edge → Chart
layout v h rs us es = record {
  rows = h;
  columns = length us;
  n = suc v;
  bar = λ x. record { row = get_or (corner_rows rs) x 0; left = choose (ℕ_discrete x 0) 0 (first x us); right = choose (ℕ_discrete x v) (length us - 1) (last x us) };
  strokes = map (stroke 0 us) es;
}

-- the chart of a plan by document 01's places: "rows 0 to 2D"
unfoldable pub chart : {t : Tree} → Plan t → Chart
chart {t} p = layout (span t) (2 * levels p + 1) (rows p) (cols p 0 (span t)) (edges 0 t)

-- Request (v), "Rows without bars": "A chart leaves out each row without one and closes up." It is one step, done to a whole chart after everything in it has its place.
-- the rows on which the bars of a chart lie
unfoldable pub bar_rows : Chart → List ℕ
bar_rows c = map (λ b. b.row) (bars_of c)

-- if the bars lie on the rows rs: how many rows of a smaller number than r carry a bar. Row r becomes the row of that number.
unfoldable pub closed_row : List ℕ → ℕ → ℕ
closed_row rs r = length (keep (λ s. mem? ℕ_discrete s rs) (below r))

-- the chart closed up: as many rows as carry a bar; columns and strokes stay
unfoldable pub closed : Chart → Chart
closed c = record {
  rows = closed_row (bar_rows c) c.rows;
  columns = c.columns;
  n = c.n;
  bar = λ x. record { row = closed_row (bar_rows c) (c.bar x).row; left = (c.bar x).left; right = (c.bar x).right };
  strokes = c.strokes;
}

-- "never has an empty row": a bar lies on each row
abbrev pub NoEmptyRow : Chart → Type 0
NoEmptyRow c = (r : ℕ) → r < c.rows → (x : ℕ) × (x < c.n) × ((c.bar x).row ≡ r)

-- the chart of a part: that of its plan drawn, closed up
unfoldable pub chart_of : Polygon → Chart
chart_of p = closed (chart (plan_of p))

module _ (c : Chart) where
  -- the bar of x has a cell in column j
  abbrev pub Covers : ℕ → ℕ → Type 0
  Covers x j = ((c.bar x).left ≤ j) × (j ≤ (c.bar x).right)

  -- "the gap of a level stroke, the cells of its row between its two bars": it has a cell in column j
  abbrev pub Gap : Edge → ℕ → Type 0
  Gap e j = (((c.bar e.0).right < j) × (j < (c.bar e.1).left)) ⊎ (((c.bar e.1).right < j) × (j < (c.bar e.0).left))

  -- bars in touching columns
  abbrev pub Touching : Edge → Type 0
  Touching e = (suc (c.bar e.0).right ≡ (c.bar e.1).left) ⊎ (suc (c.bar e.1).right ≡ (c.bar e.0).left)

-- row r is strictly between rows a and b
abbrev pub Between : ℕ → ℕ → ℕ → Type 0
Between a b r = ((a < r) × (r < b)) ⊎ ((b < r) × (r < a))

-- "A chart is true when .."
pub record True (c : Chart) : Type 0 where
  -- ".. each bar's left column is at most its right, and bars lie within rows and columns .."
  pub bars : (x : ℕ) → x < c.n → ((c.bar x).left ≤ (c.bar x).right) × ((c.bar x).right < c.columns) × ((c.bar x).row < c.rows)
  -- ".. without sharing a cell;"
  pub apart : (x y : ℕ) → x < c.n → y < c.n → x ≢ y → (c.bar x).row ≡ (c.bar y).row → ((c.bar x).right < (c.bar y).left) ⊎ ((c.bar y).right < (c.bar x).left)
  -- "a level stroke joins bars of one row with no bar between;"
  pub levels : (e : Edge) → Mem (level e) c.strokes → (e.0 < c.n) × (e.1 < c.n) × ((c.bar e.0).row ≡ (c.bar e.1).row)
      × ((z j : ℕ) → z < c.n → (c.bar z).row ≡ (c.bar e.0).row → Covers c z j → Gap c e j → ⊥)
  -- "an upright's column lies in both bars, on different rows, with no bar between;"
  pub uprights : (e : Edge) (j : ℕ) → Mem (upright e j) c.strokes → (e.0 < c.n) × (e.1 < c.n) × Covers c e.0 j × Covers c e.1 j × ((c.bar e.0).row ≢ (c.bar e.1).row)
      × ((z : ℕ) → z < c.n → Covers c z j → Between (c.bar e.0).row (c.bar e.1).row (c.bar z).row → ⊥)
  -- "no upright passes through the gap of a level stroke"
  pub clear : (e f : Edge) (j : ℕ) → Mem (upright e j) c.strokes → Mem (level f) c.strokes → Gap c f j → Between (c.bar e.0).row (c.bar e.1).row (c.bar f.0).row → ⊥

-- the strokes of the chart are exactly the polygon's sides and diagonals, each once, "ascending by (a,b), a < b"
pub record Shows (c : Chart) (p : Polygon) : Type 0 where
  pub corners : c.n ≡ p.n
  pub edges : (e : Edge) → Mem e (map stroke_edge c.strokes) ↔ Linked p.n p.ds e.0 e.1
  pub ascending : Ascending (map stroke_edge c.strokes)
