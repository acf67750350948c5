-- The span falls at each call; a piece beside is drawn as a piece or as a stem. The loop's invariant is `Along`.
use Prim.Native.Nat.{◌+◌, ◌*◌, ◌-◌}
use Rattle.drawing.proofs.Following.{Along}
use Rattle.drawing.proofs.walk.+draw_beside_draw_piece_draw_stem.Given as goal

abbrev pub decreases-draw_beside : goal.decreases-draw_beside
decreases-draw_beside l = 3 * (l.p.v - l.p.u) + 2

abbrev pub decreases-draw_piece : goal.decreases-draw_piece
decreases-draw_piece l = 3 * (l.p.v - l.p.u) + 1

abbrev pub decreases-draw_stem : goal.decreases-draw_stem
decreases-draw_stem l = 3 * (l.p.v - l.p.u)

abbrev pub invariant-draw_stem-loop-x : goal.invariant-draw_stem-loop-x
invariant-draw_stem-loop-x l = Along l.tables.tree l.tables.depths l.initial.x l.w l.at l.initial.columns l.initial.rows l.columns l.rows l.role l.x l.k

abbrev pub decreases-draw_stem-loop-x : goal.decreases-draw_stem-loop-x
decreases-draw_stem-loop-x l = l.x.v - l.x.u
