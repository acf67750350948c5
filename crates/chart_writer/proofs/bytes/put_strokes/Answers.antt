use Rattle.std.specs.Prelude.{None}
use Rattle.std.proofs.Common.{◌≡◌, sym, ap, ◌∙◌, ◌<◌, length, take, get_or, arith}
use Rattle.std.proofs.Math.Seq.{length-take-le}
use Rattle.std.proofs.lemmas.List.{length_push, get_or-take}
use Rattle.std.proofs.lemmas.List.Edits.{sets}
use Rattle.std.proofs.lemmas.Slice.Zip.{zip_turn, zip_end}
use Rattle.chart.specs.Bytes.{stroke_bytes}
use Rattle.chart_writer.specs.Tables.{table_stroke}
use Rattle.chart_writer.proofs.Runs.{run_room, strokes_none, stroke_more, stroke_size_lem, stroke_stored}
use Rattle.chart_writer.proofs.bytes.put_strokes.Goals.{In-Some, In-None}
use Rattle.chart_writer.proofs.bytes.put_strokes.Goals as goal

pub loop-k-init : goal.loop-k-init
loop-k-init c =
    let none = strokes_none c.args.tree.now c.args.stands.now in
    (omega (arith, ap length none), sym (ap (sets c.args.out.now c.args.from) none))

-- which edge the loop is at
turn : (c : In-Some) → (length c.loop-k.yielded < c.args.m)
    × (c.in-Some.field-0-0.now ≡ get_or c.args.tree.now (length c.loop-k.yielded) 0)
    × (c.in-Some.field-0-1.now ≡ get_or c.args.stands.now (length c.loop-k.yielded) None)
turn c =
    let m = c.args.m in
    let tree = c.args.tree.now in
    let stands = c.args.stands.now in
    let i = length c.loop-k.yielded in
    let t =
    zip_turn (take m tree) (take m stands) c.loop-k.yielded c.into_iter-k-iterator.result c.loop-k.k-iterator c.next.new.self c.next.result (cc) (cc)
    c.loop-k.yielded_by (c.in-Some.field-0-0, c.in-Some.field-0-1) c.in-Some.is c.next.ensures.steps in
    let h : i < m = omega (arith, t.0, length-take-le m tree c.requires.some.0) in
    (h, t.2 0 ∙ get_or-take m tree i 0 h, t.3 None ∙ get_or-take m stands i None h)

-- all were written
ended : (c : In-None) → length c.loop-k.yielded ≡ c.args.m
ended c =
    let m = c.args.m in
    let tree = c.args.tree.now in
    let stands = c.args.stands.now in
    let e =
    zip_end (take m tree) (take m stands) c.loop-k.yielded c.into_iter-k-iterator.result c.loop-k.k-iterator c.next.new.self c.next.result (cc) (cc)
    c.loop-k.yielded_by c.in-None.is c.next.ensures.steps in
    omega (arith, e, length-take-le m tree c.requires.some.0, length-take-le m stands c.requires.some.1)

pub put_stroke-at-requires : goal.put_stroke-at-requires
put_stroke-at-requires c =
    let t = turn (goal.at.put_stroke-at-requires c).In-Some in
    let i = length c.loop-k.yielded in
    rw (t.1, t.2) (
      omega (arith, run_room stroke_bytes (table_stroke c.args.tree.now c.args.stands.now) i c.args.m t.0, c.loop-k.invariant.0, c.requires.room),
      c.requires.keyed i t.0,
    )

pub loop-k-preserved : goal.loop-k-preserved
loop-k-preserved c =
    let t = turn (goal.at.loop-k-preserved c).In-Some in
    let tree = c.args.tree.now in
    let stands = c.args.stands.now in
    let i = length c.loop-k.yielded in
    rw (length_push c.loop-k.yielded (c.in-Some.field-0-0, c.in-Some.field-0-1)) (
      omega (arith, rw (t.1, t.2) at c.put_stroke-at.ensures.place, c.loop-k.invariant.0, stroke_more tree stands i, stroke_size_lem),
      (rw (t.1, t.2) at c.put_stroke-at.ensures.bytes) ∙ rw (c.loop-k.invariant.0, c.loop-k.invariant.1) (stroke_stored tree stands c.args.out.now c.args.from i),
    )

pub returns : goal.returns
returns c = rw (ended (goal.at.returns c).In-None) at c.loop-k.invariant.1
