-- How the code holds the gaps of the level strokes: the gap behind a bar from the cell behind its last one, E + 1, to an address beside it; one without cells ends at E.
use Rattle.std.specs.Prelude.{◌≡◌, List, ℕ, ◌+◌, ◌/◌, ◌≤◌, ◌<◌, length, get_or, set}
use Rattle.polygon.specs.Polygon.{Edge}
use Rattle.chart.specs.Chart.{Stroke, upright, level, Chart}
use Rattle.nearest.specs.declared.Cell.{Cell}
use Rattle.nearest.specs.Cells.{HasCell, Inside, CommonCell}
use Rattle.nearest.specs.declared.Span.{Span}
use Rattle.nearest.specs.Order.{address, span_at, Cut, Ordered, firsts, lasts}
use Rattle.chart_reader.specs.Rules.{ends}

-- the bars of n corners, held in order by the spans' addresses; the corners beside them are some list, not that of the spans
abbrev pub BarSpans : Chart → ℕ → List Span → Type 0
BarSpans c n t = (corners : List ℕ) × Ordered c.bar n (firsts t) (lasts t) corners

module _ (c : Chart) where
  -- the cell lies in the stroke's gap
  abbrev pub InGap : Stroke → Cell → Type 0
  InGap (level e) d = Inside (ends c (level e)) d
  InGap (upright e j) d = ⊥

  -- a level stroke's two cells are on one row, the first left of the last
  abbrev pub Gapped : Stroke → Type 0
  Gapped (level e) = ((ends c (level e)).0.row ≡ (ends c (level e)).1.row) × ((ends c (level e)).0.column < (ends c (level e)).1.column)
  Gapped (upright e j) = Unit {0}

  -- of an upright: none of the spans in two tables has a cell between its two cells
  abbrev pub Clear : List ℕ → List ℕ → Stroke → Type 0
  Clear from to (level e) = Unit {0}
  Clear from to (upright e j) = (i : ℕ) → i < length from → ¬ CommonCell (Inside (ends c (upright e j))) (HasCell (span_at from to i))

  -- the gap of a stroke, from behind `first` to before `last`, is put in the place of its left bar
  pub record GapPut (s : Stroke) (es to₀ to : List ℕ) : Type 0 where
    pub edge : Edge
    pub flat : s ≡ level edge
    pub wide : (ends c (level edge)).0.column + 1 < (ends c (level edge)).1.column
    pub at : ℕ
    pub cut : Cut es (address (ends c (level edge)).0) at
    pub end : ℕ
    pub before : end + 1 ≡ address (ends c (level edge)).1
    pub stored : to ≡ set to₀ at end

-- the address is one of the gap in place i
abbrev pub GapAt : List ℕ → List ℕ → ℕ → ℕ → Type 0
GapAt es to i a = (get_or es i 0 < a) × (a ≤ get_or to i 0)

-- the gaps of the first k strokes t
pub record GapsIn (c : Chart) (t : ℕ → Stroke) (k : ℕ) (starts es to : List ℕ) : Type 0 where
  pub size : length to ≡ length es
  pub up : (i : ℕ) → i < length es → get_or es i 0 ≤ get_or to i 0
  pub row : (i : ℕ) → i < length es → get_or to i 0 / 65536 ≡ get_or es i 0 / 65536
  pub apart : (i j : ℕ) → i < j → j < length es → get_or to i 0 < get_or starts j 0
  pub sound : (i a : ℕ) → i < length es → GapAt es to i a → (m : ℕ) × (d : Cell) × (m < k) × InGap c (t m) d × (address d ≡ a) × (d.column < 65536)
  pub full : (m : ℕ) → m < k → (d : Cell) → InGap c (t m) d → (i : ℕ) × (i < length es) × GapAt es to i (address d) × (d.column < 65536)
