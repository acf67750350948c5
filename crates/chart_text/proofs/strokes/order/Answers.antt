-- The keys, then sorting as many as there are strokes.
use mathlib.Core.Path.{◌≡◌}
use borrow.Author.Rules.{rules}
use Prim.Native.Nat.{◌<◌}
use native.Mathlib.Omega.{arith}
use lib.ListN.{length, take}
use lib.Seq.{length-take-le, get_or-take}
use Rattle.lists.proofs.Places.{all_at}
use Rattle.chart_text.proofs.strokes.order.Goals.{After-stroke_keys}
use Rattle.chart_text.proofs.strokes.order.Goals as goal

keys_size : (c : After-stroke_keys)
    → let m = length c.args.strokes.now.at.now in length (take m c.stroke_keys.new.keys) ≡ m
keys_size c =
    length-take-le (length c.args.strokes.now.at.now) c.stroke_keys.new.keys (omega (arith, c.stroke_keys.auto.keys, c.requires.room))

pub sort-requires-clause-within : goal.sort-requires-clause-within
sort-requires-clause-within c =
    let m = length c.args.strokes.now.at.now in
    let size = keys_size (goal.at.sort-requires-clause-within c).After-stroke_keys in
    let keys = c.stroke_keys.new.keys in
    all_at 0 (take m keys) (λ j h. let k : j < m = omega (arith, size) in rw (get_or-take m keys j 0 k) (search rules))
