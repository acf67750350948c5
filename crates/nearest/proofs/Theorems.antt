-- What this crate proves of the nearest bar, each theorem with its statement in plain words. The proofs are in the files beside this one.
-- To be read with specs/Cells.antt and specs/Nearest.antt.
use mathlib.Core.Path.{◌≡◌}
use mathlib.Core.Logic.{◌↔◌, inl, inr}
use Prim.Native.Nat.{ℕ, ◌≤◌, ◌<◌}
use native.Mathlib.Omega.{arith}
use Rattle.chart.specs.Chart.{Bar}
use Rattle.nearest.specs.declared.Cell.{Cell}
use Rattle.nearest.specs.Cells.{Inside, Stands}
use Rattle.nearest.specs.Nearest.{none, bar, away, IsNearest, nearest}
use Rattle.nearest.proofs.Line.{nearest_of, of_nearest, none_of, of_none}

-- Request (x). The question behind the reader is answered by the corner of the bar nearest the first cell, the lowest if bars share its cell; there is one such corner at most.
pub nearest_answers : (bars : ℕ → Bar) (n : ℕ) (e : Cell × Cell) (x : ℕ) → (nearest bars n e ≡ bar x) ↔ IsNearest bars n e x
nearest_answers bars n e x = (of_nearest bars n e x, nearest_of bars n e x)

-- It is answered by none exactly if no bar stands between the two cells.
pub nearest_none : (bars : ℕ → Bar) (n : ℕ) (e : Cell × Cell) → (nearest bars n e ≡ none) ↔ ((y : ℕ) → y < n → ¬ Stands e (bars y))
nearest_none bars n e = (of_none bars n e, none_of bars n e)

-- Between a cell and itself, or its neighbour, there is none.
pub neighbours_none : (bars : ℕ → Bar) (n : ℕ) (e : Cell × Cell) → away e.0 e.1 ≤ 1 → nearest bars n e ≡ none
neighbours_none bars n e h = none_of bars n e (λ y k w. far w.1)
  where
    far : {d : Cell} → Inside e d → ⊥
    far (inl w) = omega (arith, w)
    far (inr w) = omega (arith, w)
