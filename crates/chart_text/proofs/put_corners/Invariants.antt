-- The loop's invariant: the lines of the corners before x are written.
use Rattle.std.proofs.Common.{◌+◌, ◌*◌, ◌≤◌}
use Rattle.log_line.specs.Put.{Put}
use Rattle.chart_text.proofs.Lines.{corners_to}
use Rattle.chart_text.proofs.put_corners.Given as goal

abbrev pub invariant-loop-x : goal.invariant-loop-x
invariant-loop-x l = (l.end ≤ l.at + 45 * l.x) × Put (corners_to l.strokes.chart.now l.x) l.initial.out l.at l.out l.end
