-- The columns are found and the length is known before the first byte is written; then field by field, by the laws of Writing.antt.
use Rattle.std.proofs.Common.{◌∙◌, ℕ, length, take, map, arith}
use Rattle.std.specs.Prelude.{Option, None}
use Rattle.std.proofs.Math.ListN.{length-replicate, get_or-replicate}
use Rattle.std.proofs.Math.Seq.{length-take-le}
use Rattle.tree.specs.Table.{edge_at}
use Rattle.chart_writer.specs.Tables.{rows_of, lefts_of, rights_of}
use Rattle.chart_writer.proofs.Fields.{blank, front_spans, front_rows}
use Rattle.chart_writer.proofs.Writing.{uprights_keyed, chart_short, chart_written}
use Rattle.chart_writer.proofs.write_chart.Goals as goal

pub spans-requires : goal.spans-requires
spans-requires c =
    let Z = c.requires.sizes in
    let front = length-take-le c.args.n c.args.rows.now Z.corners in record {
      uprights = (uprights_keyed c.args.n c.args.height c.args.tree.now c.args.columns.now c.args.rows.now Z c.requires.edges c.requires.places, Z.some, omega (arith, Z.few));
      corners = (omega (arith, Z.least), Z.most);
      size = c.begin_bars.auto.bars ∙ length-replicate 1024 blank;
      left = λ x h. c.begin_bars.ensures.lefts x (omega (arith, front));
      right = λ x h. c.begin_bars.ensures.rights x (omega (arith, front));
      none = (length-replicate {A = Option ℕ} 2045 None, λ i h. get_or-replicate 2045 i None None h);
    }

pub returns-then-out-size : goal.returns-then-out-size
returns-then-out-size c =
    λ rs us es L. chart_short c.args.n c.args.height c.args.tree.now c.args.columns.now c.args.rows.now c.requires.sizes c.requires.edges c.requires.places
    c.spans.new.stands c.args.out.now c.spans.ensures.columns c.strokes_size.result (c.strokes_size.ensures.size c.args.tree.now) L c.if-out-size.true

pub returns : goal.returns
returns c =
    let n = c.args.n in
    let bars = c.spans.new.bars in
    let front = take n bars in
    λ rs us es L. chart_written n c.args.height c.args.tree.now c.args.columns.now c.args.rows.now c.requires.sizes c.requires.edges c.requires.places
    c.spans.new.stands c.args.out.now c.spans.ensures.columns c.strokes_size.result (c.strokes_size.ensures.size c.args.tree.now) L
    (rows_of front) (lefts_of front) (rights_of front) _ (length front)
    (length-take-le n bars (omega (arith, c.requires.sizes.most, c.spans.auto.bars, c.begin_bars.auto.bars)))
    (front_rows n bars c.args.rows.now c.begin_bars.new.bars c.requires.sizes.corners c.spans.ensures.rows c.begin_bars.ensures.rows)
    (front_spans n bars (map (edge_at c.args.tree.now) c.args.columns.now) c.spans.ensures.spans) c.if-out-size.false
    (c.put_strokes.ensures ∙ rw (c.put_bars.ensures, c.put16-3.ensures, c.put16-2.ensures, c.put16.ensures))
