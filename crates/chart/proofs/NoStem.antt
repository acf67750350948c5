-- A plan of D levels without a stem has bars on exactly D + 1 rows: each hung piece goes upwards from row 2D of its umbrella, so that every row with a bar is an even one.
-- Rests on Rungs.antt for "at least".
use mathlib.Core.Path.{◌≡◌, refl, ap}
use mathlib.Core.List.{List, map}
use Prim.Native.Nat.{ℕ, suc, ◌+◌, ◌*◌, ◌-◌, ◌≤◌, ◌<◌}
use native.Mathlib.Omega.{arith}
use lib.ListN.{length-map}
use Rattle.lists.specs.Lists.{Mem, All, all_nil, all_cons, below}
use Rattle.lists.proofs.Lists.{here, all_append, all_left, all_right, all_imp, all_map, all_mem, mem_map}
use Rattle.lists.proofs.Places.{below_count, below_mem}
use Rattle.polygon.specs.Tree.{Tree, leaf, span}
use Rattle.polygon.proofs.Chords.{span_pos}
use Rattle.umbrella.specs.Plan.{Plan, none, plain, stem_left, stem_right, LeftRim, left_end, left_on, RightRim, right_end, right_on, left_gate, left_past, right_gate, right_past, fold, fold_left, fold_right, levels, umbrellas, stems}
use Rattle.umbrella.specs.Border.{cut_left, cut_right, cut, hung_in, hung, NothingHung}
use Rattle.umbrella.proofs.Low.{left_levels, right_levels}
use Rattle.umbrella.proofs.Bounds.{bounds}
use Rattle.chart.specs.Places.{row_up, rows, left_rows, right_rows}
use Rattle.chart.specs.Chart.{corner_rows, closed_row}
use Rattle.chart.proofs.Rungs.{closed_few, rows_least}

abbrev Even : ℕ → Type 0
Even r = (k : ℕ) × (r ≡ 2 * k)

-- upwards from an even row
up_even : (D r : ℕ) → Even r → Even (row_up D r)
up_even D r (k, e) = (D - k, omega arith)

mutual
  unfolding fold rows

  even_rows : {t : Tree} (p : Plan t) → stems p ≡ 0 → All Even (rows p)
  even_rows none e = all_nil
  even_rows (plain A B) e = all_append (left_even (levels (plain A B)) A (omega arith)) (all_cons (up_even _ 0 (0, refl)) (right_even (levels (plain A B)) B (omega arith)))
  even_rows (stem_left G B) e = absurd (omega arith)
  even_rows (stem_right A G) e = absurd (omega arith)

  left_even : {t : Tree} (D : ℕ) (A : LeftRim t) → fold_left ◌+◌ (λ n. n) suc A ≡ 0 → All Even (left_rows (row_up D) A)
  left_even D left_end e = all_nil
  left_even D (left_on A p) e = all_append (left_even D A (omega arith)) (all_cons (up_even D 0 (0, refl)) (all_map (row_up D) (all_imp (up_even D) (even_rows p (omega arith)))))

  right_even : {t : Tree} (D : ℕ) (B : RightRim t) → fold_right ◌+◌ (λ n. n) suc B ≡ 0 → All Even (right_rows (row_up D) B)
  right_even D right_end e = all_nil
  right_even D (right_on p B) e = all_append (all_map (row_up D) (all_imp (up_even D) (even_rows p (omega arith)))) (all_cons (up_even D 0 (0, refl)) (right_even D B (omega arith)))

-- the even rows from 0 to 2D
pub rows_no_stem : {t : Tree} (p : Plan t) → stems p ≡ 0 → closed_row (corner_rows (rows p)) (2 * levels p + 1) ≡ suc (levels p)
rows_no_stem p e = omega (arith, rows_least p, closed_few (2 * levels p + 1) (λ r. r) evens (λ r q h k d. omega arith) (all_imp among (all_cons (0, refl) (all_append (even_rows p e) (all_cons (0, refl) all_nil)))), length-map (below (suc (levels p))) (2 *◌), below_count (suc (levels p)))
  where
    evens : List ℕ
    evens = map (2 *◌) (below (suc (levels p)))

    among : (r : ℕ) → Even r → r < 2 * levels p + 1 → Mem r evens
    among r (k, q) h = rw q (mem_map (2 *◌) (below_mem (suc (levels p)) k (omega arith)))

-- no stem and nothing hung: one level
empty_levels : {t : Tree} (p : Plan t) → t ≡ leaf → levels p ≡ 0
unfolding fold span
empty_levels none e = refl
empty_levels (plain {l} {r} A B) e = absurd (omega (arith, ap span e, span_pos l, span_pos r))
empty_levels (stem_left {l} {r} G B) e = absurd (omega (arith, ap span e, span_pos l, span_pos r))
empty_levels (stem_right {l} {r} A G) e = absurd (omega (arith, ap span e, span_pos l, span_pos r))

left_empty : {t : Tree} (u : ℕ) (A : LeftRim t) → All (λ s. s.1 ≡ leaf) (hung_in u (cut_left A)) → left_levels A ≡ 0
unfolding fold hung_in cut_left
left_empty u left_end a = refl
left_empty u (left_on A p) a = omega (arith, left_empty u A (all_left (hung_in u (cut_left A)) _ a), empty_levels p (all_mem (all_right (hung_in u (cut_left A)) a) here))

right_empty : {t : Tree} (u : ℕ) (B : RightRim t) → All (λ s. s.1 ≡ leaf) (hung_in u (cut_right B)) → right_levels B ≡ 0
unfolding fold hung_in cut_right
right_empty u right_end a = refl
right_empty u (right_on {a} p B) (all_cons e h) = omega (arith, empty_levels p e, right_empty (u + span a) B h)

pub nothing_hung : {t : Tree} (p : Plan t) → 2 ≤ span t → stems p ≡ 0 → NothingHung p → levels p ≡ 1
unfolding fold span hung hung_in cut
nothing_hung none h e a = absurd (omega arith)
nothing_hung (plain {l} A B) h e a = omega (arith, left_empty 0 A (all_left (hung_in 0 (cut_left A)) _ a), right_empty (0 + span l) B (all_right (hung_in 0 (cut_left A)) a))
nothing_hung (stem_left G B) h e a = absurd (omega arith)
nothing_hung (stem_right A G) h e a = absurd (omega arith)

-- one umbrella: one level
pub one_umbrella : {t : Tree} (p : Plan t) → umbrellas p ≡ 1 → levels p ≡ 1
unfolding fold
one_umbrella none e = absurd (omega arith)
one_umbrella (plain A B) e = omega (arith, (bounds (plain A B)).levels_few)
one_umbrella (stem_left G B) e = omega (arith, (bounds (stem_left G B)).levels_few)
one_umbrella (stem_right A G) e = omega (arith, (bounds (stem_right A G)).levels_few)

-- a triangle: one umbrella and no stem
pub triangle_flat : {t : Tree} (p : Plan t) → span t ≡ 2 → (umbrellas p ≡ 1) × (stems p ≡ 0)
unfolding fold span
triangle_flat none e = absurd (omega arith)
triangle_flat (plain left_end right_end) e = (refl, refl)
triangle_flat (plain {r = r} (left_on {a} {b} A p) B) e = absurd (omega (arith, span_pos a, span_pos b, span_pos r))
triangle_flat (plain left_end (right_on {a} {b} p B)) e = absurd (omega (arith, span_pos a, span_pos b))
triangle_flat (stem_left {r = r} (left_gate {a} {b} A S) B) e = absurd (omega (arith, span_pos a, span_pos b, span_pos r))
triangle_flat (stem_left {r = r} (left_past {a} {b} G p) B) e = absurd (omega (arith, span_pos a, span_pos b, span_pos r))
triangle_flat (stem_right {l} A (right_gate {a} {b} S B)) e = absurd (omega (arith, span_pos l, span_pos a, span_pos b))
triangle_flat (stem_right {l} A (right_past {a} {b} p G)) e = absurd (omega (arith, span_pos l, span_pos a, span_pos b))
