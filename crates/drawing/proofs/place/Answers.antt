-- By Whole.antt.
use mathlib.Core.Path.{◌∙◌, ap}
use native.Mathlib.Omega.{arith}
use lib.ListN.{length-set}
use Rattle.levels.specs.declared.Six.{Six}
use Rattle.levels.proofs.Storing.{deep_root}
use Rattle.drawing.proofs.Whole.{sized, part_placed}
use Rattle.drawing.proofs.place.Goals as goal

pub overflow_sub-rows : goal.overflow_sub-rows
overflow_sub-rows c = omega (arith, sized c.requires.filled.1)

pub offset_bounds-rows-n : goal.offset_bounds-rows-n
offset_bounds-rows-n c = omega (arith, sized c.requires.filled.1)

pub bounds-rows-n : goal.bounds-rows-n
bounds-rows-n c = omega (arith, sized c.requires.filled.1, length-set c.args.rows.now 0 0, c.requires.room.1)

pub returns : goal.returns
returns c t F =
    let W = c.draw_piece-c.ensures _ (record { shows = F.whole.shows; deep = F.deep }) in
    part_placed F c.args.columns.now c.args.rows.now c.requires.room.0 c.requires.room.1 W
    (c.from-ud.ensures ∙ ap (λ (x : Six). x.ud) (c.values.ensures ∙ deep_root F.deep))
