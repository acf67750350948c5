-- What the answer of `nearest` says of a chart's bars, and of spans in a table.
use mathlib.Core.Path.{◌≡◌}
use Prim.Native.Nat.{ℕ}
use Rattle.lists.proofs.Places.{below_all, below_at}
use Rattle.chart.specs.Chart.{Chart}
use Rattle.nearest.specs.declared.Cell.{Cell}
use Rattle.nearest.specs.Nearest.{none, bar, nearest}
use Rattle.nearest.proofs.Line.{of_nearest, of_none}
use Rattle.chart_reader.specs.Rules.{Free}

module _ (c : Chart) (n : ℕ) (count : n ≡ c.n) (e : Cell × Cell) where
  pub none_free : nearest c.bar n e ≡ none → Free c e
  none_free h = below_all c.n (λ z k. of_none c.bar n e h z (rw count k))

  pub some_stands : (x : ℕ) → nearest c.bar n e ≡ bar x → Free c e → ⊥
  some_stands x h F = let N = of_nearest c.bar n e x h in below_at F x (rw count at N.corner) (N.at, N.between, N.has)
