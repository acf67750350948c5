-- Once i bars are filled, the first i records are the chart's bars and the others stand as they were.
use Rattle.std.proofs.Common.{◌≡◌}
use Rattle.bar_list.specs.Bars.{filled}
use Rattle.bar_list.proofs.fill_bars.Given as goal

abbrev pub invariant-loop-i : goal.invariant-loop-i
invariant-loop-i l = l.bar-items ≡ filled l.chart l.i l.initial.bar-items
