-- A plan of D levels has bars on at least D + 1 different rows: row 0, and the rows of a hung piece of the most levels.
-- By recursion on the plan. A hung piece's rows go by `row_up D` or by `suc`, to different rows from 1 to 2D.
use mathlib.Core.Path.{◌≡◌, refl, ap}
use mathlib.Core.Logic.{◌≢◌}
use mathlib.Core.List.{List, [], ◌∷◌, ◌++◌, map}
use Prim.Native.Nat.{ℕ, suc, ◌+◌, ◌*◌, ◌≤◌, ◌<◌, max}
use native.Mathlib.Decide.{ℕ_discrete}
use native.Mathlib.Numerals.{add-one}
use native.Mathlib.Omega.{arith}
use lib.ListN.{length}
use Rattle.lists.specs.Lists.{Mem, All, all_nil, all_cons, Sorted, sorted_nil, sorted_cons, keep, not?, numbers, below}
use Rattle.lists.proofs.Lists.{here, there, mem_left, mem_right, mem_map, all_both, all_imp, all_mem, all_of, all_self, keep_mem, keep_all, keep_test, keep_split, keep_yes, keep_sorted}
use Rattle.lists.proofs.Places.{nth_lt, mem_nth, numbers_mem, below_mem, below_all, below_sorted_by}
use Rattle.polygon.specs.Tree.{Tree}
use Rattle.umbrella.specs.Plan.{Plan, none, plain, stem_left, stem_right, LeftRim, left_end, left_on, RightRim, right_end, right_on, LeftGate, left_gate, left_past, RightGate, right_gate, right_past, Stem, end_both, end_left, end_right, go_left, go_right, fold, levels}
use Rattle.umbrella.proofs.Low.{left_levels, right_levels, left_gate_levels, right_gate_levels, stem_levels}
use Rattle.chart.specs.Places.{row_up, rows, left_rows, right_rows, left_gate_rows, right_gate_rows, stem_rows}
use Rattle.chart.specs.Chart.{corner_rows, closed_row}
use Rattle.chart.proofs.Closing.{carries?}

-- elements to which f gives different values, all in ys: no more than ys has
few : (f : ℕ → ℕ) {xs : List ℕ} (ys : List ℕ) → Sorted (λ x y. f x ≢ f y) xs → All (λ x. Mem (f x) ys) xs → length xs ≤ length ys
few f ys sorted_nil all_nil = omega arith
few f ys (sorted_cons {x} o s) (all_cons m a) =
    let (i, n) = mem_nth (keep_mem (ℕ_discrete (f x)) ys m refl) in
    omega (arith, keep_split (ℕ_discrete (f x)) ys, nth_lt n, few f (keep (λ y. not? (ℕ_discrete (f x) y)) ys) s (all_both (λ y d k. keep_mem _ ys k d) o a))

-- the rows below h that carry a bar, brought by f to different elements of ys
pub closed_few : {rs : List ℕ} (h : ℕ) (f : ℕ → ℕ) (ys : List ℕ) → ((r s : ℕ) → r < s → s < h → f r ≢ f s) → All (λ r. r < h → Mem (f r) ys) rs → closed_row rs h ≤ length ys
unfolding closed_row
closed_few {rs} h f ys d a = few f ys (keep_sorted _ (below_sorted_by h d)) (all_both (λ r k m. all_mem a m k) (keep_all _ (below_all h (λ r k. k))) (keep_test (carries? rs) (below h)))

-- more bars, more rows
closed_more : {rs ss : List ℕ} (h : ℕ) → All (λ r. Mem r ss) rs → closed_row rs h ≤ closed_row ss h
unfolding closed_row
closed_more {ss = ss} h a = closed_few h (λ r. r) (keep (carries? ss) (below h)) (λ r s k l e. omega arith) (all_imp (λ r m k. keep_mem _ (below h) (below_mem h r k) m) a)

-- row 0, which carries a bar, and the h rows from 1 on
closed_ground : (rs : List ℕ) (h : ℕ) → closed_row (0 ∷ rs) (h + 1) ≡ suc (length (keep (carries? (0 ∷ rs)) (numbers h 1)))
unfolding closed_row below numbers
closed_ground rs h = rw (add-one h) (ap length (keep_yes (carries? (0 ∷ rs)) 0 (numbers h 1) here))

-- f brings the rows of a piece of less than D levels to different rows from 1 to 2D
record Lifts (D : ℕ) (f : ℕ → ℕ) : Type 0 where
  into : (r : ℕ) → suc r < 2 * D → Mem (f r) (numbers (2 * D) 1)
  apart : (r s : ℕ) → r < s → suc s < 2 * D → f r ≢ f s

-- those of a piece hung on row 2D, and on row 1
upwards : (D : ℕ) → Lifts D (row_up D)
upwards D = record { into = λ r h. numbers_mem (2 * D) 1 (row_up D r) (omega arith) (omega arith); apart = λ r s h k e. omega arith }

downwards : (D : ℕ) → Lifts D suc
downwards D = record { into = λ r h. numbers_mem (2 * D) 1 (suc r) (omega arith) (omega arith); apart = λ r s h k e. omega arith }

-- row 0 and the rows rs are more than k of the rows 0 to 2D
record Rungs (D k : ℕ) (rs : List ℕ) : Type 0 where
  many : k ≤ D → k < closed_row (0 ∷ rs) (2 * D + 1)

-- of an empty piece
nothing : Rungs 0 0 []
nothing = record { many = λ h. omega (arith, closed_ground [] (2 * 0)) }

module _ {D : ℕ} where
  -- of a hung piece: one row more, row 0
  hung : {d : ℕ} {f : ℕ → ℕ} {rs : List ℕ} → Lifts D f → Rungs d d rs → Rungs D (suc d) (f 0 ∷ map f rs)
  hung {d} {f} {rs} F R =
      let ys : List ℕ = keep (carries? (0 ∷ (f 0 ∷ map f rs))) (numbers (2 * D) 1) in
      record { many = λ h. omega (arith, closed_ground (f 0 ∷ map f rs) (2 * D), R.many (omega arith), closed_few (2 * d + 1) f ys (λ r s k l. F.apart r s k (omega arith)) (all_of (0 ∷ rs) (λ r m k. keep_mem _ _ (F.into r (omega arith)) (there (mem_map f m))))) }

  -- of more rows
  wider : {k : ℕ} {rs ss : List ℕ} → All (λ r. Mem r ss) rs → Rungs D k rs → Rungs D k ss
  wider {ss = ss} a R = record { many = λ h. omega (arith, R.many h, closed_more {ss = 0 ∷ ss} (2 * D + 1) (all_cons here (all_imp (λ r m. there m) a))) }

  -- of one row more, in front
  more : {k r : ℕ} {rs : List ℕ} → Rungs D k rs → Rungs D k (r ∷ rs)
  more {rs = rs} R = wider (all_of rs (λ r m. there m)) R

  -- the first row put last
  last : {k r : ℕ} {rs : List ℕ} → Rungs D k (r ∷ rs) → Rungs D k (rs ++ (r ∷ []))
  last {r = r} {rs} R = wider (all_cons (mem_right rs here) (all_of rs (λ s m. mem_left (r ∷ []) m))) R

  -- of two lists: those of the one that has more
  join : {a b : ℕ} {rs ss : List ℕ} → Rungs D (suc a) rs → Rungs D (suc b) ss → Rungs D (suc (max a b)) (rs ++ ss)
  join {rs = rs} {ss} R S = record { many = λ h. omega (arith, (wider (all_of rs (λ r m. mem_left ss m)) R).many (omega arith), (wider (all_of ss (λ r m. mem_right rs m)) S).many (omega arith)) }

  -- the same, with a row of both between them
  cross : {a b r : ℕ} {rs ss : List ℕ} → Rungs D (suc a) (r ∷ rs) → Rungs D (suc b) (r ∷ ss) → Rungs D (suc (max a b)) (rs ++ (r ∷ ss))
  cross {rs = rs} R S = wider (all_cons (mem_right rs here) (all_self _)) (join R S)

mutual
  unfolding fold rows

  -- of a plan
  rungs : {t : Tree} (p : Plan t) → Rungs (levels p) (levels p) (rows p)
  rungs none = nothing
  rungs (plain A B) = cross (left_rungs (upwards _) A) (right_rungs (upwards _) B)
  rungs (stem_left G B) = join (left_gate_rungs (upwards _) G) (right_rungs (upwards _) B)
  rungs (stem_right A G) = cross (left_rungs (upwards _) A) (right_gate_rungs (upwards _) G)

  -- of a rim on row f 0, its hung pieces by f
  left_rungs : {t : Tree} {D : ℕ} {f : ℕ → ℕ} → Lifts D f → (A : LeftRim t) → Rungs D (suc (left_levels A)) (f 0 ∷ left_rows f A)
  left_rungs F left_end = hung F nothing
  left_rungs F (left_on A p) = join (left_rungs F A) (hung F (rungs p))

  right_rungs : {t : Tree} {D : ℕ} {f : ℕ → ℕ} → Lifts D f → (B : RightRim t) → Rungs D (suc (right_levels B)) (f 0 ∷ right_rows f B)
  right_rungs F right_end = hung F nothing
  right_rungs F (right_on p B) = join (hung F (rungs p)) (right_rungs F B)

  -- of a rim with a gate
  left_gate_rungs : {t : Tree} {D : ℕ} {f : ℕ → ℕ} → Lifts D f → (G : LeftGate t) → Rungs D (suc (left_gate_levels G)) (left_gate_rows f G)
  left_gate_rungs F (left_gate A S) = cross (left_rungs (downwards _) A) (more (stem_rungs F (downwards _) S))
  left_gate_rungs F (left_past G p) = join (left_gate_rungs F G) (hung F (rungs p))

  right_gate_rungs : {t : Tree} {D : ℕ} {f : ℕ → ℕ} → Lifts D f → (G : RightGate t) → Rungs D (suc (right_gate_levels G)) (f 0 ∷ right_gate_rows f G)
  right_gate_rungs F (right_gate S B) = more (join (stem_rungs (downwards _) F S) (right_rungs (downwards _) B))
  right_gate_rungs F (right_past p G) = join (hung F (rungs p)) (right_gate_rungs F G)

  -- of a stem between the rows g 0 and h 0
  stem_rungs : {t : Tree} {D : ℕ} {g h : ℕ → ℕ} → Lifts D g → Lifts D h → (S : Stem t) → Rungs D (suc (stem_levels S)) (stem_rows g h S)
  stem_rungs G H end_both = hung (downwards _) nothing
  stem_rungs G H (end_left c) = hung G (rungs c)
  stem_rungs G H (end_right c) = last (hung H (rungs c))
  stem_rungs G H (go_left S c) = join (stem_rungs G H S) (hung G (rungs c))
  stem_rungs G H (go_right c S) = cross (hung H (rungs c)) (more (stem_rungs G H S))

-- with the bars of both root corners
pub rows_least : {t : Tree} (p : Plan t) → suc (levels p) ≤ closed_row (corner_rows (rows p)) (2 * levels p + 1)
rows_least p = (last (more (rungs p))).many (omega arith)
