-- The records that are filled from the bytes of a chart are the chart's bars.
use mathlib.Core.Path.{◌≡◌, refl, ap, ap₂}
use mathlib.Core.List.{List, ◌∷◌, ◌++◌, map}
use Prim.Native.Nat.{ℕ, zero, suc, ◌+◌, ◌<◌}
use native.Mathlib.Omega.{arith}
use lib.ListN.{drop}
use Rattle.lists.specs.Lists.{below, numbers}
use Rattle.chart.specs.Chart.{Chart, bars_of, Bar}
use Rattle.chart.specs.Bytes.{bytes_of}
use Rattle.bar_list.specs.Bars.{bars_from, filled}
use Rattle.chart.specs.declared.Bar.{Bar as Record}
use Rattle.chart.specs.Decode.{chart_in, record_of}
use Rattle.chart.proofs.Decoded.{bar_in}

from_same : (s : List ℕ) (f : ℕ → Bar) (m k : ℕ) → ((x : ℕ) → x < k + m → (chart_in s).bar x ≡ f x) → bars_from s k m ≡ map record_of (map f (numbers m k))
unfolding numbers
from_same s f zero k h = refl
from_same s f (suc m) k h = ap₂ ◌∷◌ (ap record_of (h k (omega arith))) (from_same s f m (suc k) (λ x l. h x (omega arith)))

-- The first n records are the chart's bars, and the others stay.
pub bars_of_chart : (c : Chart) (rest : List ℕ) (ys : List Record) → filled (bytes_of c ++ rest) c.n ys ≡ map record_of (bars_of c) ++ drop c.n ys
unfolding bars_of below
bars_of_chart c rest ys = ap (λ (l : List Record). l ++ drop c.n ys) (from_same (bytes_of c ++ rest) c.bar c.n 0 (λ x h. bar_in c rest x (omega arith)))
