-- An encoded list of edits, run from two first sheets that are read alike: the edits answer alike, and so the buffers, the numbers and the place of the sheet left are the same.
use mathlib.Core.Path.{◌≡◌, refl, ap, ap₂}
use mathlib.Core.List.{List, [], ◌∷◌, ◌++◌}
use Prim.Native.Nat.{ℕ, zero, suc}
use native.Mathlib.Decide.{ℕ_discrete}
use native.Mathlib.Omega.{arith}
use lib.ListN.{length, drop}
use Rattle.lists.specs.Lists.{choose}
use Rattle.codec.specs.Answer.{Answer, written}
use Rattle.sheet.specs.Sheet.{Reading, read_sheet, outcome}
use Rattle.edit.specs.Rules.{Edit, rule}
use Rattle.edit.specs.Calls.{on_held, edited, Call, called}
use Rattle.edit_list.specs.Script.{script_of, fault_of}
use Rattle.edit_list.specs.Desk.{placed, Desk, desk_of, begin, current, other, call_of, answer_of, answered_desk, desk_step, desk_after, numbers_of}
use Rattle.edit_list.specs.Result.{numbered, finished, unchanged, result_of}
use Rattle.promises.specs.PartNumbers.{SameRun}

-- an edit of two sheets that are read alike
pub alike_called : (s t : List ℕ) (c : Call) → read_sheet s ≡ read_sheet t → called s c ≡ called t c
unfolding called edited
alike_called s t c e = ap (λ (r : Reading). written (outcome (on_held r (rule c.edit))) c.out) e

-- the desks of the two runs: the first sheet is still read, or they are the same desk
data Desks : Desk → Desk → Type 0 where
  first : {m n : ℕ} {front back : List ℕ} → Desks (desk_of 0 m front back) (desk_of 0 n front back)
  same : {d : Desk} → ¬ (d.place ≡ 0) → Desks d d

other_not : (p : ℕ) → ¬ (other p ≡ 0)
unfolding other placed
other_not zero e = omega arith
other_not (suc zero) e = omega arith
other_not (suc (suc p)) e = omega arith

module _ (s t : List ℕ) (e : read_sheet s ≡ read_sheet t) where
  -- one edit: the same number, and desks alike
  first_step : (m n : ℕ) (front back : List ℕ) (room : ℕ) (a : Answer) → Desks (answered_desk (desk_of 0 m front back) room a) (answered_desk (desk_of 0 n front back) room a)
  unfolding answered_desk choose placed
  first_step m n front back room a = go (ℕ_discrete a.number 0)
    where
      go : (d : Dec (a.number ≡ 0)) → Desks (desk_of (choose d (other 0) 0) (choose d a.size m) (a.bytes ++ drop room front) back) (desk_of (choose d (other 0) 0) (choose d a.size n) (a.bytes ++ drop room front) back)
      go (yes h) = same (other_not 0)
      go (no h) = first

  later_step : (d : Desk) (room : ℕ) (a : Answer) → ¬ (d.place ≡ 0) → ¬ ((answered_desk d room a).place ≡ 0)
  unfolding answered_desk choose
  later_step d room a p = go (ℕ_discrete a.number 0)
    where
      go : (x : Dec (a.number ≡ 0)) → ¬ (choose x (other d.place) d.place ≡ 0)
      go (yes h) = other_not d.place
      go (no h) = p

  reads_buffer : (p : ℕ) (x y : List ℕ) → ¬ (p ≡ 0) → placed p s x y ≡ placed p t x y
  unfolding placed
  reads_buffer zero x y f = absurd (f refl)
  reads_buffer (suc zero) x y f = refl
  reads_buffer (suc (suc p)) x y f = refl

  step_alike : {d f : Desk} (x : Edit × ℕ) → Desks d f → ((answer_of s d x).number ≡ (answer_of t f x).number) × Desks (desk_step s d x) (desk_step t f x)
  unfolding desk_step answer_of placed
  step_alike x (first {m} {n} {front} {back}) =
      let a = alike_called s t (call_of (desk_of 0 m front back) x) e in
      (ap (λ (y : Answer). y.number) a, rw a (first_step m n front back x.1 _))
  step_alike x (same {d} p) =
      let a : called (current s d) (call_of d x) ≡ called (current t d) (call_of d x) = ap (λ (y : List ℕ). called y (call_of d x)) (reads_buffer d.place _ _ p) in
      (ap (λ (y : Answer). y.number) a, rw a (same (later_step d x.1 _ p)))

  steps_alike : (xs : List (Edit × ℕ)) {d f : Desk} → Desks d f → (numbers_of s d xs ≡ numbers_of t f xs) × Desks (desk_after s d xs) (desk_after t f xs)
  unfolding numbers_of desk_after
  steps_alike [] D = (refl, D)
  steps_alike (x ∷ xs) D =
      let S = step_alike x D in
      let R = steps_alike xs S.1 in
      (ap₂ ◌∷◌ S.0 R.0, R.1)

  desks_run : (outs us vs : List ℕ) {d f : Desk} → us ≡ vs → Desks d f
      → SameRun (record { number = 0; place = d.place; size = d.size; front = d.front; back = d.back; outs = numbered us outs }) (record { number = 0; place = f.place; size = f.size; front = f.front; back = f.back; outs = numbered vs outs })
  unfolding placed
  desks_run outs us vs q first = record { number = refl; place = refl; front = refl; back = refl; outs = ap (λ (ns : List ℕ). numbered ns outs) q; told = refl }
  desks_run outs us vs q (same p) = record { number = refl; place = refl; front = refl; back = refl; outs = ap (λ (ns : List ℕ). numbered ns outs) q; told = refl }

  pub run_alike : (list front back outs : List ℕ) → SameRun (result_of s list front back outs) (result_of t list front back outs)
  unfolding result_of choose finished
  run_alike list front back outs = go (fault_of list (length front) (length back) (length outs)) (ℕ_discrete _ 0)
    where
      R : (numbers_of s (begin s front back) (script_of list) ≡ numbers_of t (begin t front back) (script_of list)) × Desks (desk_after s (begin s front back) (script_of list)) (desk_after t (begin t front back) (script_of list))
      R = steps_alike (script_of list) first

      go : (k : ℕ) (d : Dec (k ≡ 0)) → SameRun (choose d (finished s list front back outs) (unchanged k front back outs)) (choose d (finished t list front back outs) (unchanged k front back outs))
      go k (yes h) = desks_run outs _ _ R.0 R.1
      go k (no h) = record { number = refl; place = refl; front = refl; back = refl; outs = refl; told = refl }
