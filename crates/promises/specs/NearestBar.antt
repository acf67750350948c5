-- Request (x), "The nearest bar", sentence by sentence. "Readers of foreign charts want to follow a line with a finger." `nearest` is in crate nearest, specs/Nearest.antt, for any bars;
-- specs/Follow.antt of crate chart_reader asks it of a chart's bytes.
use Rattle.std.specs.Prelude.{◌≡◌, ◌↔◌, List, ℕ, ◌≤◌, ◌<◌}
use Rattle.lists.specs.Lists.{All}
use Rattle.polygon.specs.Polygon.{Polygon}
use Rattle.sheet.specs.Sheet.{held}
use Rattle.chart.specs.Chart.{Bar, Chart}
use Rattle.chart.specs.Decode.{chart_in}
use Rattle.nearest.specs.declared.Cell.{Cell}
use Rattle.nearest.specs.Cells.{Stands}
use Rattle.nearest.specs.Nearest.{none, bar, away, IsNearest, nearest}
use Rattle.chart_reader.specs.Rules.{ends, Free}
use Rattle.chart_reader.specs.Charts.{Charts}
use Rattle.chart_reader.specs.Reader.{read_chart}
use Rattle.chart_reader.specs.Follow.{Asked, nearest_bar}

pub record NearestBar : Type 0 where
  -- "The small question behind the chart reader, .., whether a bar stands between two cells of a row or column, neither cell counted, now answers with the corner of such a bar nearest the first cell
  -- (the lowest if bars share a cell),"
  pub answer : (bars : ℕ → Bar) (n : ℕ) (e : Cell × Cell) (x : ℕ) → (nearest bars n e ≡ bar x) ↔ IsNearest bars n e x
  -- "or none exactly if there is no such bar."
  pub no_bar : (bars : ℕ → Bar) (n : ℕ) (e : Cell × Cell) → (nearest bars n e ≡ none) ↔ ((y : ℕ) → y < n → ¬ Stands e (bars y))
  -- no cell lies between neighbours
  pub neighbours : (bars : ℕ → Bar) (n : ℕ) (e : Cell × Cell) → away e.0 e.1 ≤ 1 → nearest bars n e ≡ none
  -- "The reader, and whatever else asks it, goes by the new answer.": its rule that no bar is between two cells is that the answer is none, and so it is of each stroke of a chart that is taken
  pub reader : (c : Chart) (e : Cell × Cell) → Free c e ↔ (nearest c.bar c.n e ≡ none)
  pub strokes : (s : List ℕ) (p : Polygon) → read_chart s ≡ held p → All (λ t. nearest (chart_in s).bar (chart_in s).n (ends (chart_in s) t) ≡ none) (chart_in s).strokes
  -- "A chart is taken or refused as before.": exactly the bytes of a true chart are taken; by which number others are refused is `refuses` of crate chart_reader, proofs/Theorems.antt, word for word as it was
  pub taken : (s : List ℕ) (p : Polygon) → All (λ b. b < 256) s → (read_chart s ≡ held p) ↔ Charts s p
  -- of a chart that is taken every two cells of a row or column are answered
  pub followed : (s : List ℕ) (p : Polygon) → read_chart s ≡ held p → (e : Cell × Cell) → Asked (chart_in s) e → nearest_bar s e ≡ record { number = 0; found = nearest (chart_in s).bar (chart_in s).n e }
