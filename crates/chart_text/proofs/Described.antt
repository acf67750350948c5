-- From what a chart was read as to what is said of it.
-- Rests on what reading a chart accepts (crate chart_reader).
use mathlib.Core.Path.{◌≡◌, refl}
use mathlib.Core.List.{List}
use Prim.Native.Nat.{ℕ}
use Rattle.lists.specs.Lists.{All}
use Rattle.polygon.specs.Polygon.{Polygon}
use Rattle.sheet.specs.Sheet.{held}
use Rattle.chart.specs.Decode.{chart_in}
use Rattle.chart_reader.specs.Formed.{Formed}
use Rattle.chart_reader.specs.Rules.{Named}
use Rattle.chart_reader.specs.Reader.{read_chart}
use Rattle.chart_reader.proofs.Verdict.{by_reading}
use Rattle.chart_reader.proofs.Accepts.{held_keeps}

-- the bytes of a chart that was read are those of a chart, whose strokes are of two corners each
pub read_formed : (s : List ℕ) (p : Polygon) → read_chart s ≡ held p → Formed s × All (Named (chart_in s)) (chart_in s).strokes
read_formed s p e = let H = held_keeps s p (by_reading s e) refl in (H.formed, H.strokes.0)
