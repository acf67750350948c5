-- What lies between two cells fills an area, and the decisions that rest on it. The areas are those of specs/Areas.antt.
use Rattle.std.specs.Prelude.{◌≡◌}
use Rattle.std.proofs.Common.{sym, ◌∙◌, inl, inr, arith}
use Rattle.std.proofs.Math.Decide.{ℕ_discrete}
use Rattle.lists.specs.Lists.{choose}
use Rattle.chart.specs.Chart.{Bar}
use Rattle.nearest.specs.declared.Cell.{Cell}
use Rattle.nearest.specs.Cells.{Inside, CommonCell, Stands}
use Rattle.nearest.specs.Areas.{Fills, common_of, bar_area, bar_fills, row_area, column_area, nowhere, between}

pub row_fills : (e : Cell × Cell) → e.0.row ≡ e.1.row → Fills (Inside e) (row_area e)
row_fills e h = record { covered = λ c i. elim i [ inl k ↦ omega (arith, k) | inr k ↦ absurd (omega (arith, k)) ]; filled = λ c i. inl (omega arith) }

pub column_fills : (e : Cell × Cell) → e.0.column ≡ e.1.column → Fills (Inside e) (column_area e)
column_fills e h = record { covered = λ c i. elim i [ inl k ↦ absurd (omega (arith, k)) | inr k ↦ omega (arith, k) ]; filled = λ c i. inr (omega arith) }

pub nowhere_fills : (e : Cell × Cell) → ¬ (e.0.row ≡ e.1.row) → ¬ (e.0.column ≡ e.1.column) → Fills (Inside e) nowhere
nowhere_fills e f g = record { covered = λ c i. absurd (elim i [ inl k ↦ f (k.0 ∙ sym k.1) | inr k ↦ g (k.0 ∙ sym k.1) ]); filled = λ c i. absurd (omega arith) }

-- what lies between two cells fills the area between them
pub between_fills : (e : Cell × Cell) → Fills (Inside e) (between e)
unfolding between choose
between_fills e = go (ℕ_discrete e.0.row e.1.row) (ℕ_discrete e.0.column e.1.column)
  where
    go : (d : Dec (e.0.row ≡ e.1.row)) (k : Dec (e.0.column ≡ e.1.column)) → Fills (Inside e) (choose d (row_area e) (choose k (column_area e) nowhere))
    go (yes h) k = row_fills e h
    go (no f) (yes h) = column_fills e h
    go (no f) (no g) = nowhere_fills e f g

-- whether a bar stands between two cells, a cell lies between two cells and between two others
unfoldable pub stands? : (e : Cell × Cell) (b : Bar) → Dec (Stands e b)
stands? e b = common_of (between e) (bar_area b) (between_fills e) (bar_fills b)

unfoldable pub crosses? : (e f : Cell × Cell) → Dec (CommonCell (Inside e) (Inside f))
crosses? e f = common_of (between e) (between f) (between_fills e) (between_fills f)
