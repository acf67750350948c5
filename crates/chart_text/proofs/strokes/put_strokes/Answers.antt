-- The keys in order, then a line for each.
use mathlib.Core.Path.{◌≡◌}
use native.Mathlib.Omega.{arith}
use lib.ListN.{length, take}
use lib.Seq.{length-take-le}
use Rattle.chart_text.proofs.Sorting.{ordered_number, ordered_lines}
use Rattle.chart_text.proofs.strokes.put_strokes.Goals.{After-order}
use Rattle.chart_text.proofs.strokes.put_strokes.Goals as goal

keys_size : (c : After-order)
    → let m = length c.args.strokes.now.at.now in length (take m c.order.new.keys) ≡ m
keys_size c =
    length-take-le (length c.args.strokes.now.at.now) c.order.new.keys (omega (arith, c.order.auto.keys, c.args.strokes.now.sizes))

pub put_lines-requires : goal.put_lines-requires
put_lines-requires c =
    let ks = take (length c.args.strokes.now.at.now) c.order.new.keys in
    record { strokes = c.requires.strokes; room = (ordered_number c.args.strokes.now.chart.now c.args.strokes.now.n c.args.strokes.now.at.now c.args.strokes.now.found ks c.order.ensures, omega (arith, keys_size (goal.at.put_lines-requires c).After-order, c.requires.room)) }

pub returns : goal.returns
returns c =
    let ks = take (length c.args.strokes.now.at.now) c.order.new.keys in
    record { text = rw (ordered_lines c.args.strokes.now.chart.now c.args.strokes.now.n c.args.strokes.now.at.now c.args.strokes.now.found ks c.order.ensures) at c.put_lines.ensures.text; within = omega (arith, c.put_lines.ensures.within, keys_size (goal.at.returns c).After-order) }
