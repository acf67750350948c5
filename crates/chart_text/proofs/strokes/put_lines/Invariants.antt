-- The loop's invariant: the lines of the strokes of the keys so far are written.
use Rattle.std.proofs.Common.{◌+◌, ◌*◌, ◌≤◌}
use Rattle.log_line.specs.Put.{Put}
use Rattle.chart_text.proofs.Lines.{lines_to}
use Rattle.chart_text.proofs.strokes.put_lines.Given as goal

abbrev pub invariant-loop-key : goal.invariant-loop-key
invariant-loop-key l = (l.end ≤ l.from + 44 * l.key-index) × Put (lines_to l.strokes.chart.now l.strokes.at.now l.keys l.key-index) l.initial.out l.from l.out l.end
