-- The part's tables, then its chart and its line: by the laws of Inputs.antt.
use mathlib.Core.Path.{◌≡◌, ap, ◌∙◌}
use native.Mathlib.Omega.{arith}
use Rattle.codec.specs.Answer.{Outcome, answered, written, write}
use Rattle.chart.specs.Chart.{Chart, chart_of}
use Rattle.chart.specs.Bytes.{bytes_of}
use Rattle.log_line.specs.Line.{line}
use Rattle.log_line.specs.Put.{Put}
use Rattle.log_line.proofs.Size.{line_size}
use Rattle.draw.specs.Label.{tape}
use Rattle.draw.specs.Charted.{unless_stopped}
use Rattle.draw.specs.Printed.{facts_of}
use Rattle.draw.proofs.Answers.{tape_fits}
use Rattle.draw.proofs.Charting.{chart_held, facts_held}
use Rattle.draw.proofs.Inputs.{part_shown}
use Rattle.draw.proofs.program.show_part.Goals.{After-counts_line-line}
use Rattle.draw.proofs.program.show_part.Goals as goal

-- the chart and the line that were written are those of the part
wrote : (c : After-counts_line-line) → answered c.write_part-drawn.result.written c.write_part-drawn.new.out ≡ written (write (bytes_of (chart_of c.args.part.now))) c.args.chart.now
wrote c =
    let p = c.args.part.now in
    let n = c.head-h.result.n in
    let out = c.args.chart.now in
    (c.write_part-drawn.ensures _ c.fill.ensures).answer
    ∙ (ap (λ (ch : Chart). written (unless_stopped tape n ch) out) (chart_held p c.head-h.ensures.corners c.requires.part)
    ∙ ap (λ (o : Outcome). written o out) (tape_fits p c.head-h.ensures.valid.triangulated n (omega (arith, c.head-h.ensures.corners))))

said : (c : After-counts_line-line) → Put (line (facts_of c.args.part.now)) c.args.text.now 0 c.counts_line-line.new.out c.counts_line-line.result
said c =
    let F = c.fill.ensures in
    let W = c.write_part-drawn.ensures _ F in
    rw (ap line (facts_held c.args.part.now c.head-h.result c.head-h.ensures.corners c.requires.part (c.counts_of-counts.ensures _ _ F) W.rows_are W.columns_are)) at c.counts_line-line.ensures

pub returns-clause-done : goal.returns-clause-done
returns-clause-done c =
    let w = (goal.at.returns-clause-done c).After-counts_line-line in
    (part_shown c.args.part.now c.head-h.ensures.valid _ _ _ c.requires.room.0 (wrote w) c.ok.ensures.value c.requires.room.1 (said w)).0

pub returns-clause-within : goal.returns-clause-within
returns-clause-within c =
    let w = (goal.at.returns-clause-within c).After-counts_line-line in
    let short = part_shown c.args.part.now c.head-h.ensures.valid _ _ _ c.requires.room.0 (wrote w) c.ok.ensures.value c.requires.room.1 (said w) in
    (short.1, omega (arith, (said w).end, line_size (facts_of c.args.part.now), c.counts_line-line.auto.out, c.requires.room.1))
