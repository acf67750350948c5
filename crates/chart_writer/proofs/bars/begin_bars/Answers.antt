use Rattle.std.proofs.Common.{refl, ◌<◌, length, get_or, arith}
use Rattle.std.proofs.lemmas.List.{drop-set-lt}
use Rattle.chart.specs.declared.Bar.{Bar}
use Rattle.chart_writer.proofs.Fields.{bar_set}
use Rattle.chart_writer.proofs.bars.begin_bars.Goals as goal

pub loop-x-preserved : goal.loop-x-preserved
loop-x-preserved c =
    let bars = c.loop-x.bars in
    let rows = c.args.rows.now in
    let x = c.loop-x.x in
    let b : Bar = record { row = get_or rows x 0; left = c.args.w; right = 0 } in
    let inside : x < length bars = omega (arith, c.loop-x.auto.bars, c.requires, c.loop-x-test.true) in (
      λ y h. bar_set (λ (r : Bar). r.row) bars x b y (get_or rows y 0) inside (λ e. rw e) (λ e. c.loop-x.invariant.0 y (omega (arith, e))),
      λ y h. bar_set (λ (r : Bar). r.left) bars x b y c.args.w inside (λ e. refl) (λ e. c.loop-x.invariant.1 y (omega (arith, e))),
      λ y h. bar_set (λ (r : Bar). r.right) bars x b y 0 inside (λ e. refl) (λ e. c.loop-x.invariant.2 y (omega (arith, e))),
      rw (drop-set-lt (length rows) bars x b (omega (arith, c.loop-x-test.true))) c.loop-x.invariant.3,
    )
