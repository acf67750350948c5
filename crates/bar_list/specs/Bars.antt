-- The bars of a chart's bytes, as records.
use Rattle.std.specs.Prelude.{List, [], ◌∷◌, ◌++◌, ℕ, zero, suc, drop}
use Rattle.chart.specs.declared.Bar.{Bar}
use Rattle.chart.specs.Decode.{chart_in, record_of}

abbrev pub record_at : List ℕ → ℕ → Bar
record_at s i = record_of ((chart_in s).bar i)

-- those of n corners from corner k on
abbrev pub bars_from : List ℕ → ℕ → ℕ → List Bar
bars_from s k zero = []
bars_from s k (suc n) = record_at s k ∷ bars_from s (suc k) n

-- the first n records are the chart's bars; "records beyond the result stay"
abbrev pub filled : List ℕ → ℕ → List Bar → List Bar
filled s n ys = bars_from s 0 n ++ drop n ys
