-- The records that Draw with the bar list fills, and the room for them. For the contracts.
use Rattle.std.specs.Prelude.{List, ℕ, ◌+◌, ◌*◌, ◌≤◌, Result, Ok, Err}
use Rattle.codec.specs.declared.refusal.Refusal.{Refusal}
use Rattle.bar_list.specs.Bars.{filled}
use Rattle.chart.specs.declared.Bar.{Bar}

-- the records once they are filled from the chart's bytes; a refusal fills none
abbrev pub filled_by : Result (ℕ × ℕ) Refusal → List ℕ → List Bar → List Bar
filled_by (Ok (k, n)) chart bars = filled chart n bars
filled_by (Err r) chart bars = bars

-- as many records as `room` hold the bars, and m bytes hold them too
abbrev pub RecordsFit : Result (ℕ × ℕ) Refusal → ℕ → ℕ → Type 0
RecordsFit (Ok (k, n)) room m = (n ≤ room) × (6 + 6 * n ≤ m)
RecordsFit (Err r) room m = Unit {0}
