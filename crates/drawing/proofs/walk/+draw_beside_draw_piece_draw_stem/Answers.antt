-- Rims.antt has the rims of a piece, Following.antt the loop along a rim or a stem.
use mathlib.Core.Path.{◌≡◌, ◌∙◌, ap}
use borrow.Author.Rules.{rules}
use Prim.Native.Nat.{ℕ, ◌+◌, ◌<◌, ◌≤◌}
use native.Mathlib.Omega.{arith}
use lib.ListN.{set}
use Rattle.polygon.specs.Tree.{Tree}
use Rattle.umbrella.specs.Values.{ud}
use Rattle.umbrella.proofs.Wide.{nine}
use Rattle.tree.proofs.Pieces.{opened, corners, ends, one_piece}
use Rattle.levels.specs.declared.Six.{Six}
use Rattle.levels.specs.Kept.{Tabled}
use Rattle.levels.proofs.Storing.{deep_root}
use Rattle.levels.proofs.Knowing.{tabled_parts}
use Rattle.drawing.proofs.Following.{along_ends, walked_turned, walked_kept, differ_is, Onward, onward_is}
use Rattle.drawing.proofs.Rims.{hung_empty, RimPair, rim_pair}
use Rattle.drawing.proofs.walk.+draw_beside_draw_piece_draw_stem.Goals.{draw_piece-After-values-ud, draw_piece-After-rims_of-r, draw_stem-After-open-t, draw_stem-After-from}
use Rattle.drawing.proofs.walk.+draw_beside_draw_piece_draw_stem.Goals as goal

-- the levels of a piece as they are read
tall : (t : ℕ) (c : draw_piece-After-values-ud t) → c.values-ud.result.ud ≡ ud c.requires.known.0
tall t c = ap (λ (x : Six). x.ud) (c.values-ud.ensures ∙ deep_root c.requires.known.1.deep)

-- the two rims
pair : (t : ℕ) (c : draw_piece-After-rims_of-r t) (x : Tree) →
    Tabled c.args.tables.now.tree c.args.tables.now.depths c.args.p.e c.args.p.u c.args.p.v x
    → RimPair c.args.tables.now.tree c.args.tables.now.depths c.args.p c.args.w x c.args.at c.args.columns.now c.args.rows.now (set c.args.rows.now c.from.result c.far_line-far.result.base)
    c.values-ud.result.ud c.far_line-far.result c.near_line-near.result c.rims_of-r.result
pair t c x k =
    let levels = ap (λ (y : Six). y.ud) (c.values-ud.ensures ∙ deep_root k.deep) in
    rw c.from.ensures (rim_pair k c.if-p.false c.requires.room c.requires.hung levels c.open-t.result c.rims_of-r.result _ _ c.open-t.ensures c.rims_of-r.ensures c.far_line-far.ensures c.near_line-near.ensures)

pub draw_piece-returns-then-p : goal.draw_piece-returns-then-p
draw_piece-returns-then-p t c = λ x k. hung_empty c.args.at c.args.columns.now c.args.rows.now c.requires.hung k c.if-p.true

pub draw_piece-far_line-far-requires : goal.draw_piece-far_line-far-requires
draw_piece-far_line-far-requires t c =
    let K = c.requires.known in
    (omega (arith, c.requires.room.far_small), omega (arith, tall t (goal.at.draw_piece-far_line-far-requires t c).After-values-ud, nine K.0 (omega (arith, ends K.1.shows, corners K.1.shows))))

pub draw_piece-draw_stem-k-requires : goal.draw_piece-draw_stem-k-requires
draw_piece-draw_stem-k-requires t c =
    let P = pair t (goal.at.draw_piece-draw_stem-k-requires t c).After-rims_of-r c.requires.known.0 c.requires.known.1 in
    (omega (arith, P.narrow_first, c.decreases), ((P.first, P.known_first), (P.room_first, P.not_hung_first)))

pub draw_piece-draw_stem-requires : goal.draw_piece-draw_stem-requires
draw_piece-draw_stem-requires t c =
    let P = pair t (goal.at.draw_piece-draw_stem-requires t c).After-rims_of-r c.requires.known.0 c.requires.known.1 in
    (omega (arith, P.narrow_second, c.decreases), ((P.second, P.known_second), (P.room_second _ _ _ (c.draw_stem-k.ensures P.first P.known_first), P.not_hung_second)))

pub draw_piece-returns : goal.draw_piece-returns
draw_piece-returns t c =
    λ x k.
    let P = pair t (goal.at.draw_piece-returns t c).After-rims_of-r x k in
    P.walked _ _ _ _ _ _ (c.draw_stem-k.ensures P.first P.known_first) (c.draw_stem.ensures P.second P.known_second)

pub draw_piece-overflow_add-p : goal.draw_piece-overflow_add-p
draw_piece-overflow_add-p t c = omega (arith, corners c.requires.known.1.shows)

pub draw_piece-overflow_sub-first : goal.draw_piece-overflow_sub-first
draw_piece-overflow_sub-first t c =
    let K = tabled_parts c.requires.known.1 c.if-p.false in
    let high : 1 ≤ ud c.requires.known.0 = rw K.parts.is K.tall in
    omega (arith, tall t (goal.at.draw_piece-overflow_sub-first t c).After-values-ud)

pub draw_stem-overflow_add-x : goal.draw_stem-overflow_add-x
draw_stem-overflow_add-x t c = omega (arith, corners c.loop-x.invariant.known.shows)

-- the places of the triangle's other two edges
sides : (t : ℕ) (c : draw_stem-After-open-t t) → (c.open-t.result.left.e < 2045) × (c.open-t.result.right.e < 2045) × (c.open-t.result.left.v < 1024)
sides t c = let d = opened c.loop-x.invariant.known.shows c.loop-x-test.true in rw c.open-t.ensures (omega (arith, d), omega (arith, d), omega (arith, d))

pub draw_stem-values-a-requires : goal.draw_stem-values-a-requires
draw_stem-values-a-requires t c = omega (arith, sides t (goal.at.draw_stem-values-a-requires t c).After-open-t)

pub draw_stem-values-b-requires : goal.draw_stem-values-b-requires
draw_stem-values-b-requires t c = omega (arith, sides t (goal.at.draw_stem-values-b-requires t c).After-open-t)

pub draw_stem-bounds-columns-k-2 : goal.draw_stem-bounds-columns-k-2
draw_stem-bounds-columns-k-2 t c = let A = c.loop-x.invariant in omega (arith, A.fits, c.requires.room.fits, corners A.known.shows)

-- on from the triangle
ahead : (t : ℕ) (c : draw_stem-After-from t) →
    Onward c.args.tables.now.tree c.args.tables.now.depths c.args.p c.args.w c.args.at c.args.columns.now c.args.rows.now c.loop-x.columns c.loop-x.rows c.loop-x.x c.loop-x.k
    c.from.result c.beside_line-line.result c.go_on-n.result
ahead t c =
    rw c.from.ensures (onward_is c.loop-x.invariant c.loop-x-test.true c.requires.room c.open-t.result c.values-a.result c.values-b.result c.step_at-s.result c.from_right-right.result c.go_on-n.result c.beside_line-line.result
    c.open-t.ensures c.values-a.ensures c.values-b.ensures c.step_at-s.ensures c.from_right-right.ensures c.go_on-n.ensures c.beside_line-line.ensures)

pub draw_stem-draw_beside-k-requires : goal.draw_stem-draw_beside-k-requires
draw_stem-draw_beside-k-requires t c =
    let O = ahead t (goal.at.draw_stem-draw_beside-k-requires t c).After-from in
    let A = c.loop-x.invariant in
    (omega (arith, O.narrow, A.fits, A.begun, c.decreases), ((O.beside, O.known_beside), O.room))

pub draw_stem-loop-x-smaller : goal.draw_stem-loop-x-smaller
draw_stem-loop-x-smaller t c = omega (arith, (ahead t (goal.at.draw_stem-loop-x-smaller t c).After-from).narrow_on)

pub draw_stem-loop-x-preserved : goal.draw_stem-loop-x-preserved
draw_stem-loop-x-preserved t c = let O = ahead t (goal.at.draw_stem-loop-x-preserved t c).After-from in O.on _ _ _ (c.draw_beside-k.ensures O.beside O.known_beside)

pub draw_stem-slice_bounds-reverse-end : goal.draw_stem-slice_bounds-reverse-end
draw_stem-slice_bounds-reverse-end t c =
    let A = c.loop-x.invariant in
    let room : c.loop-x.k + 1 ≤ 2048 = omega (arith, A.fits, c.requires.room.fits, corners A.known.shows) in
    search rules

pub draw_stem-returns-then-turn : goal.draw_stem-returns-then-turn
draw_stem-returns-then-turn t c =
    λ x k.
    let A = c.loop-x.invariant in
    let room = c.requires.room in
    let other = differ_is _ _ ∙ (rw c.from_right-right.ensures at c.if-turn.true) in
    rw (one_piece k.shows A.whole.shows)
    (walked_turned (along_ends A c.loop-x-test.false) other (omega (arith, A.fits, room.fits, room.columns_size, corners A.known.shows)) c.reverse.ensures.after)

pub draw_stem-returns-else-turn : goal.draw_stem-returns-else-turn
draw_stem-returns-else-turn t c =
    λ x k.
    let A = c.loop-x.invariant in
    rw (one_piece k.shows A.whole.shows) (walked_kept (along_ends A c.loop-x-test.false) (differ_is _ _ ∙ (rw c.from_right-right.ensures at c.if-turn.false)))
