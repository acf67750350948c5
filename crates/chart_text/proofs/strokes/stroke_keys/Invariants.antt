-- The loop's invariant: the keys of the first i strokes are written.
use Rattle.std.proofs.Common.{◌≡◌, take}
use Rattle.chart_text.proofs.Sorting.{keys_to}
use Rattle.chart_text.proofs.strokes.stroke_keys.Given as goal

abbrev pub invariant-loop-i : goal.invariant-loop-i
invariant-loop-i l = take l.i l.keys ≡ keys_to l.strokes.chart.now l.strokes.at.now l.i
