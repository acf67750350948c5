-- The columns of every plan of every piece are as a drawing asks: each column ascends, each corner has one stretch of columns, level edges touch.
-- One recursion over the six kinds of a plan's parts, a stem once from the left and once from the right. Its steps take what is drawn of the parts as arguments: a clause of a recursion is checked more than once, so each is a name and its arguments.
use mathlib.Core.Path.{refl}
use mathlib.Core.List.{◌∷◌}
use Prim.Native.Nat.{ℕ, suc, ◌+◌, ◌-◌, ◌*◌, max}
use native.Mathlib.Omega.{arith}
use Rattle.polygon.specs.Tree.{Tree, span}
use Rattle.polygon.proofs.Chords.{span_pos}
use Rattle.umbrella.specs.Plan.{Plan, none, plain, stem_left, stem_right, LeftRim, left_end, left_on, RightRim, right_end, right_on, LeftGate, left_gate, left_past, RightGate, right_gate, right_past, Stem, end_both, end_left, end_right, go_left, go_right, fold}
use Rattle.umbrella.proofs.Low.{left_levels, right_levels, left_gate_levels, right_gate_levels}
use Rattle.chart.specs.Places.{cols, rows, left_rows, right_rows, left_gate_rows, right_gate_rows, row_up}
use Rattle.chart.proofs.Cells.{range, range_none}
use Rattle.chart.proofs.Block.{piece_blank}
use Rattle.chart.proofs.Umbrella.{to_block, from_rim, draw_umbrella}
use Rattle.chart.proofs.Rows.{Knows, knows_left, knows_right, knows_head, knows_tail, left_length, left_gate_length}
use Rattle.chart.proofs.Rim.{rim_up}
use Rattle.chart.proofs.Flats.{flats, left_flats, right_flats, left_gate_flats, right_gate_flats}
use Rattle.chart.proofs.Drawn.{OfPlan, OfLeft, OfRight, OfLeftGate, OfRightGate, OfStem, OfBack}
use Rattle.chart.proofs.DrawRims.{left_end_lem, left_on_lem, right_end_lem, right_on_lem, right_past_lem, right_gate_lem, left_past_lem, left_gate_lem}
use Rattle.chart.proofs.DrawStems.{stem_ends, stem_ends_left, stem_ends_right, stem_goes_left, stem_goes_right, back_ends, back_ends_left, back_ends_right, back_goes_left, back_goes_right}

empty : OfPlan none
unfolding span fold cols rows flats rim_up
empty R u v h ru rv K = record { piece = piece_blank u v 0 R (range (suc u) v) (λ x. range_none (suc u) v x (omega arith)); full = λ i. absurd (omega arith) }

bare : {l r : Tree} (A : LeftRim l) (B : RightRim r) → OfLeft A → OfRight B → OfPlan (plain A B)
unfolding span fold cols rows flats rim_up
bare {l} {r} A B left right R u v h ru rv K =
    let D : ℕ = suc (max (left_levels A) (right_levels B)) in
    let k : ℕ = 2 * D in
    let m : ℕ = 2 * max (left_levels A) (right_levels B) in
    let c : ℕ = u + span l in
    let K₂ : Knows R c (row_up D 0 ∷ right_rows (row_up D) B) = knows_right c (left_rows (row_up D) A) (row_up D 0 ∷ right_rows (row_up D) B) (omega (arith, left_length (row_up D) A)) K in
    let K₁ : Knows R (suc u) (left_rows (row_up D) A) = knows_left (left_rows (row_up D) A) (row_up D 0 ∷ right_rows (row_up D) B) K in
    draw_umbrella (span l + span r) u c v (left_flats A u c) (right_flats B c v) (omega (arith, span_pos l)) (omega (arith, span_pos r))
    (from_rim (omega (arith, span_pos l)) (left k m R (row_up D) u c (rim_up k m R u (omega arith) ru) refl (omega arith) K₁ (knows_head K₂)))
    (to_block (λ x. omega arith) (right k m R (row_up D) c v (v - 1) (rim_up k m R v (omega arith) rv) (omega arith) (omega (arith, span_pos l)) (omega arith) (knows_head K₂) (knows_tail K₂)))

stem_below : {l r : Tree} (G : LeftGate l) (B : RightRim r) → OfLeftGate G → OfRight B → OfPlan (stem_left G B)
unfolding span fold cols rows flats rim_up
stem_below {l} {r} G B left right R u v h ru rv K =
    let D : ℕ = suc (max (left_gate_levels G) (right_levels B)) in
    let k : ℕ = 2 * D in
    let m : ℕ = 2 * max (left_gate_levels G) (right_levels B) in
    let c : ℕ = u + span l in
    let K₂ : Knows R c (row_up D 0 ∷ right_rows (row_up D) B) = knows_right c (left_gate_rows (row_up D) G) (row_up D 0 ∷ right_rows (row_up D) B) (omega (arith, left_gate_length (row_up D) G)) K in
    let K₁ : Knows R (suc u) (left_gate_rows (row_up D) G) = knows_left (left_gate_rows (row_up D) G) (row_up D 0 ∷ right_rows (row_up D) B) K in
    draw_umbrella (span l + span r) u c v (left_gate_flats G u c) (right_flats B c v) (omega (arith, span_pos l)) (omega (arith, span_pos r))
    (left k m R u c refl (omega arith) (omega arith) ru K₁ (knows_head K₂))
    (to_block (λ x. omega arith) (right k m R (row_up D) c v (v - 1) (rim_up k m R v (omega arith) rv) (omega arith) (omega (arith, span_pos l)) (omega arith) (knows_head K₂) (knows_tail K₂)))

stem_above : {l r : Tree} (A : LeftRim l) (G : RightGate r) → OfLeft A → OfRightGate G → OfPlan (stem_right A G)
unfolding span fold cols rows flats rim_up
stem_above {l} {r} A G left right R u v h ru rv K =
    let D : ℕ = suc (max (left_levels A) (right_gate_levels G)) in
    let k : ℕ = 2 * D in
    let m : ℕ = 2 * max (left_levels A) (right_gate_levels G) in
    let c : ℕ = u + span l in
    let K₂ : Knows R c (row_up D 0 ∷ right_gate_rows (row_up D) G) = knows_right c (left_rows (row_up D) A) (row_up D 0 ∷ right_gate_rows (row_up D) G) (omega (arith, left_length (row_up D) A)) K in
    let K₁ : Knows R (suc u) (left_rows (row_up D) A) = knows_left (left_rows (row_up D) A) (row_up D 0 ∷ right_gate_rows (row_up D) G) K in
    draw_umbrella (span l + span r) u c v (left_flats A u c) (right_gate_flats G c v) (omega (arith, span_pos l)) (omega (arith, span_pos r))
    (from_rim (omega (arith, span_pos l)) (left k m R (row_up D) u c (rim_up k m R u (omega arith) ru) refl (omega arith) K₁ (knows_head K₂)))
    (right k m R c v (v - 1) (omega arith) (omega (arith, span_pos l)) (omega arith) (omega arith) rv (knows_head K₂) (knows_tail K₂))

mutual
  pub draws : {t : Tree} (p : Plan t) → OfPlan p
  draws none = empty
  draws (plain A B) = bare A B (left A) (right B)
  draws (stem_left G B) = stem_below G B (left_gated G) (right B)
  draws (stem_right A G) = stem_above A G (left A) (right_gated G)

  left : {t : Tree} (A : LeftRim t) → OfLeft A
  left left_end = left_end_lem
  left (left_on A p) = left_on_lem A p (left A) (draws p)

  right : {t : Tree} (B : RightRim t) → OfRight B
  right right_end = right_end_lem
  right (right_on p B) = right_on_lem p B (draws p) (right B)

  right_gated : {t : Tree} (G : RightGate t) → OfRightGate G
  right_gated (right_past p G) = right_past_lem p G (draws p) (right_gated G)
  right_gated (right_gate S B) = right_gate_lem S B (stem S) (right B)

  left_gated : {t : Tree} (G : LeftGate t) → OfLeftGate G
  left_gated (left_past G p) = left_past_lem G p (left_gated G) (draws p)
  left_gated (left_gate A S) = left_gate_lem A S (left A) (back S)

  stem : {t : Tree} (S : Stem t) → OfStem S
  stem end_both = stem_ends
  stem (end_left c) = stem_ends_left c (draws c)
  stem (end_right c) = stem_ends_right c (draws c)
  stem (go_left S c) = stem_goes_left S c (stem S) (draws c)
  stem (go_right c S) = stem_goes_right c S (draws c) (stem S)

  back : {t : Tree} (S : Stem t) → OfBack S
  back end_both = back_ends
  back (end_left c) = back_ends_left c (draws c)
  back (end_right c) = back_ends_right c (draws c)
  back (go_left S c) = back_goes_left S c (back S) (draws c)
  back (go_right c S) = back_goes_right c S (draws c) (back S)
