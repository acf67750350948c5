-- The first and the last columns, then the root corners' two.
use Rattle.std.proofs.Common.{sym, ◌∙◌, ap, subst, List, ℕ, ◌-◌, map, length, set, get_or, arith}
use Rattle.tree.specs.Table.{edge_at}
use Rattle.chart_writer.specs.Tables.{Spans, lefts_of, rights_of}
use Rattle.chart_writer.proofs.Fields.{with_left, with_right, left_set, left_rows, left_rights, right_set, right_rows, right_lefts, lefts_length, rights_length}
use Rattle.chart_writer.proofs.Extents.{spans_end}
use Rattle.chart_writer.proofs.bars.spans.Goals as goal

pub returns-clause-spans : goal.returns-clause-spans
returns-clause-spans c =
    let bars = c.rights.new.bars in
    let last = c.args.n - 1 in
    let v = length c.args.columns.now - 1 in
    let starts = with_left bars 0 0 in
    let first = lefts_of c.lefts.new.bars in
    let us = map (edge_at c.args.tree.now) c.args.columns.now in
    let left = right_lefts starts last v ∙ (left_set bars 0 0 ∙ ap (λ (l : List ℕ). set l 0 0) c.rights.ensures.lefts) in
    let right = right_set starts last v ∙ ap (λ (l : List ℕ). set l last v) (left_rights bars 0 0) in
    subst (λ (l : List ℕ). Spans c.args.n us l (rights_of (with_right starts last v))) (sym left)
    (subst (λ (r : List ℕ). Spans c.args.n us (set first 0 0) r) (sym right)
    (spans_end c.args.tree.now c.args.columns.now c.args.n first (rights_of bars) c.requires.corners.0 c.requires.corners.1
    (omega (arith, lefts_length c.lefts.new.bars, c.lefts.auto.bars, c.requires.size))
    (omega (arith, rights_length bars, c.rights.auto.bars, c.lefts.auto.bars, c.requires.size))
    (λ x h. c.lefts.ensures.lefts x (c.requires.left x h))
    (λ x h. c.rights.ensures.rights x (ap (λ (l : List ℕ). get_or l x 0) c.lefts.ensures.rights ∙ c.requires.right x h))))

pub returns-clause-rows : goal.returns-clause-rows
returns-clause-rows c =
    let bars = c.rights.new.bars in
    right_rows (with_left bars 0 0) (c.args.n - 1) (length c.args.columns.now - 1) ∙ (left_rows bars 0 0 ∙ (c.rights.ensures.rows ∙ c.lefts.ensures.rows))
