-- Document 01, "A chart is true when ..": the rule of bars, the first that "Read a chart" tests. The others are in crate chart_reader, specs/Rules.antt.
use Rattle.std.specs.Prelude.{ℕ, ◌≤◌, ◌<◌}
use Rattle.lists.specs.Lists.{All, Sorted, below}
use Rattle.chart.specs.Chart.{Bar, Chart}
use Rattle.nearest.specs.Cells.{HasCell, CommonCell}

-- 15: "a bar breaks its rule". "Each bar's left column is at most its right, and bars lie within rows and columns .."
abbrev pub LiesIn : ℕ → ℕ → Bar → Type 0
LiesIn rows columns b = (b.left ≤ b.right) × (b.right < columns) × (b.row < rows)

module _ (c : Chart) where
  abbrev pub Lies : ℕ → Type 0
  Lies x = LiesIn c.rows c.columns (c.bar x)

  -- ".. without sharing a cell"
  abbrev pub Apart : ℕ → ℕ → Type 0
  Apart x y = ¬ CommonCell (HasCell (c.bar x)) (HasCell (c.bar y))

  abbrev pub BarRule : Type 0
  BarRule = All Lies (below c.n) × Sorted Apart (below c.n)
