-- Closing up by tables: the rows are marked, their running sums are the closed rows, and each corner gets its row's.
use mathlib.Core.Path.{◌≡◌, sym, ◌∙◌, ap}
use mathlib.Core.Logic.{inl, inr}
use mathlib.Core.List.{List, [], ◌∷◌, ◌++◌, map}
use Prim.Native.Nat.{ℕ, zero, suc, ◌+◌, ◌≤◌, ◌<◌}
use native.Mathlib.Decide.{ℕ_discrete}
use native.Mathlib.Numerals.{add-one}
use native.Mathlib.Omega.{arith}
use lib.ListN.{length, take, get_or, set, length-set}
use lib.Seq.{take-suc, take_all}
use Rattle.lists.specs.Lists.{Mem, All, times, mem?}
use Rattle.lists.proofs.Lists.{here, mem_left, mem_right, snoc_cases, all_imp, map_same}
use Rattle.lists.proofs.Occurs.{times_yes, times_same}
use Rattle.lists.proofs.Places.{all_at, at_all, stored, Ahead}
use Rattle.keys.specs.Sort.{total}
use Rattle.keys.proofs.Counting.{total_next}
use Rattle.chart.specs.Chart.{closed_row}
use Rattle.chart.proofs.Closing.{closed_zero, closed_carried, closed_empty, closed_le}
use Rattle.drawing.specs.Marks.{Marked}

-- no row, and one row more, marked
pub marked_none : (marks : List ℕ) → ((r : ℕ) → r < length marks → get_or marks r 0 ≡ 0) → Marked [] marks
unfolding mem? times
marked_none marks z = z

pub marked_next : (rs marks : List ℕ) (x : ℕ) → x < length rs → get_or rs x 0 < length marks → Marked (take x rs) marks → Marked (take (x + 1) rs) (set marks (get_or rs x 0) 1)
marked_next rs marks x h k M r l =
    let y : ℕ = get_or rs x 0 in
    let more : List ℕ = take x rs ++ (y ∷ []) in
    rw (add-one x, take-suc rs x 0 h)
    (stored (λ v. v ≡ times (mem? ℕ_discrete r more)) marks y 1 r k
    (λ e. sym (times_yes (mem? ℕ_discrete r more) (mem_right (take x rs) (rw e here))))
    (λ f. M r (rw (length-set marks y 1) at l)
    ∙ times_same (mem? ℕ_discrete r (take x rs)) (mem? ℕ_discrete r more) (mem_left (y ∷ [])) (λ m. elim (snoc_cases (take x rs) y m) [ inl j ↦ j | inr e ↦ absurd (f e) ])))

-- the running sums of the marks
module _ (rs marks : List ℕ) (M : Marked rs marks) where
  pub marked_sum : (r : ℕ) → r ≤ length marks → total (take r marks) ≡ closed_row rs r
  unfolding total times
  marked_sum zero h = sym (closed_zero rs)
  marked_sum (suc r) h = total_next marks r h ∙ go (mem? ℕ_discrete r rs) (M r h) (marked_sum r (omega arith))
    where
      go : (k : Dec (Mem r rs)) → get_or marks r 0 ≡ times k → total (take r marks) ≡ closed_row rs r → total (take r marks) + get_or marks r 0 ≡ closed_row rs (suc r)
      go (yes m) e s = omega (arith, closed_carried rs r m)
      go (no f) e s = omega (arith, closed_empty rs r f)

  -- they are small
  pub total_small : total marks ≤ length marks
  total_small = omega (arith, ap total (sym (take_all (length marks) marks (omega arith))), marked_sum (length marks) (omega arith), closed_le rs (length marks))

  module _ (numbers : List ℕ) (kept : length numbers ≡ length marks) (S : (d : ℕ) → d < length marks → get_or numbers d 0 ≡ total (take d marks)) where
    pub numbered : (r : ℕ) → r < length marks → get_or numbers r 0 ≡ closed_row rs r
    numbered r h = S r h ∙ marked_sum r (omega arith)

    pub numbers_small : All (λ k. k < length marks) numbers
    numbers_small = all_at 0 numbers (λ j h. omega (arith, numbered j (omega arith), closed_le rs j))

    pub renumbered : (m : ℕ) → m ≤ length marks → All (λ r. r < m) rs → map (λ r. get_or numbers r 0) rs ≡ map (closed_row rs) rs
    renumbered m h small = map_same (all_imp (λ r k. numbered r (omega arith)) small)

-- the first x corners have new numbers
pub record Renumbered (f : ℕ → ℕ) (first rows : List ℕ) (x : ℕ) : Type 0 where
  pub ahead : Ahead first rows x
  pub done : take x rows ≡ map f (take x first)

-- the row at hand is one of the first
pub row_inside : {f : ℕ → ℕ} {first rows : List ℕ} {x m : ℕ} → Renumbered f first rows x → x < length rows → All (λ r. r < m) first → get_or rows x 0 < m
row_inside {x = x} R h small = omega (arith, R.ahead.rest x (omega arith), at_all 0 small x (omega (arith, R.ahead.kept)))
