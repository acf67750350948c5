-- A result in one number: its place is at most 2, and a sheet in a buffer is no longer than an edit lent, which is a number of four bytes.
use mathlib.Core.Path.{◌≡◌, refl}
use mathlib.Core.List.{List}
use Prim.Native.Nat.{ℕ, zero, suc, ◌+◌, ◌*◌, ◌≤◌, ◌<◌}
use native.Mathlib.Decide.{ℕ_discrete}
use native.Mathlib.Omega.{arith}
use lib.ListN.{length, take, length-take}
use Rattle.lists.specs.Lists.{All, all_nil, all_cons, choose}
use Rattle.codec.proofs.Numbers.{get32_below}
use Rattle.edit.specs.Rules.{Edit}
use Rattle.edit.specs.Calls.{edited, called}
use Rattle.std.proofs.Common.{Result as Either, Ok, Err}
use Rattle.codec.specs.declared.refusal.Refusal.{Refusal}
use Rattle.edit_list.specs.declared.Left.{Left}
use Rattle.edit_list.specs.Script.{count, edit_at, script_of, fault_of}
use Rattle.edit_list.specs.Desk.{placed, Desk, begin, other, current, buffer, answer_of, answered_desk, desk_step, desk_after}
use Rattle.edit_list.specs.Result.{Result, finished, unchanged, ran_of, result_of, RunReadsBack, SmallRun, Tellable}
use Rattle.edit_list.proofs.Tests.{edits_all}
use Rattle.edit_list.proofs.Within.{written_within}
use Rattle.edit_list.proofs.Running.{refusals}

-- an edit lends a number of four bytes
lends_small : (list : List ℕ) → All (λ b. b < 256) list → All (λ (x : Edit × ℕ). x.1 < 4294967296) (script_of list)
unfolding script_of edit_at
lends_small list bytes = edits_all list 0 (count list) (λ j h. get32_below (j * 13 + 9) bytes)

other_told : (place : ℕ) → other place ≤ 2
unfolding other placed
other_told zero = omega arith
other_told (suc zero) = omega arith
other_told (suc (suc k)) = omega arith

module _ (first : List ℕ) where
  answer_size : (d : Desk) (x : Edit × ℕ) → (answer_of first d x).size ≤ x.1
  unfolding answer_of called
  answer_size d x = omega (arith, (written_within (edited x.0 (current first d)) (take x.1 (buffer d))).0, length-take x.1 (buffer d))

  step_told : (d : Desk) (x : Edit × ℕ) → x.1 < 4294967296 → SmallRun d.place d.size → SmallRun (desk_step first d x).place (desk_step first d x).size
  unfolding desk_step answered_desk choose
  step_told d x h T = go (ℕ_discrete (answer_of first d x).number 0)
    where
      go : (n : Dec ((answer_of first d x).number ≡ 0)) → SmallRun (choose n (other d.place) d.place) (choose n (answer_of first d x).size d.size)
      go (yes p) = (other_told d.place, λ q. omega (arith, answer_size d x))
      go (no p) = T

  after_told : (d : Desk) {xs : List (Edit × ℕ)} → All (λ (x : Edit × ℕ). x.1 < 4294967296) xs → SmallRun d.place d.size → SmallRun (desk_after first d xs).place (desk_after first d xs).size
  unfolding desk_after
  after_told d all_nil T = T
  after_told d (all_cons {x} h a) T = after_told (desk_step first d x) a (step_told d x h T)

  pub result_told : (list front back outs : List ℕ) → All (λ b. b < 256) list → SmallRun (result_of first list front back outs).place (result_of first list front back outs).size
  unfolding result_of choose finished
  result_told list front back outs bytes = go (fault_of list (length front) (length back) (length outs)) (ℕ_discrete _ 0)
    where
      go : (k : ℕ) (d : Dec (k ≡ 0)) → let r = choose d (finished first list front back outs) (unchanged k front back outs) in SmallRun r.place r.size
      go k (yes z) = after_told (begin first front back) (lends_small list bytes) (omega arith, λ q. absurd (q refl))
      go k (no z) = (omega arith, λ q. absurd (q refl))

-- the length told: of the first sheet none, of a sheet in a buffer its own
in_first : (place size : ℕ) → place ≡ 0 → placed place 0 size size ≡ 0
unfolding placed
in_first place size z = rw z refl

pub in_buffer : (place size : ℕ) → ¬ (place ≡ 0) → placed place 0 size size ≡ size
unfolding placed
in_buffer zero size p = absurd (p refl)
in_buffer (suc zero) size p = refl
in_buffer (suc (suc k)) size p = refl

-- so the result is read back from its number
run_back : (r : Result) → r.number < 65536 → SmallRun r.place r.size → RunReadsBack r
run_back r n T = go (ℕ_discrete r.place 0)
  where
    go : Dec (r.place ≡ 0) → RunReadsBack r
    go (yes z) =
        let l = in_first r.place r.size z in
        record { number_back = omega arith; place_back = omega arith; left_back = λ q. absurd (q z); first_back = λ q. omega arith; one_number = omega arith }
    go (no z) =
        let l = in_buffer r.place r.size z in
        let h = T.1 z in
        record { number_back = omega arith; place_back = omega arith; left_back = λ q. omega arith; first_back = λ q. absurd (z q); one_number = omega arith }

-- a result's number is 0 or 32 to 35
run_number : (first list front back outs : List ℕ) → (result_of first list front back outs).number < 65536
run_number first list front back outs = go (ℕ_discrete (result_of first list front back outs).number 0)
  where
    go : Dec ((result_of first list front back outs).number ≡ 0) → (result_of first list front back outs).number < 65536
    go (yes z) = omega arith
    go (no z) = omega (arith, (refusals first list front back outs _ refl z).1)

pub run_reads_back : (first list front back outs : List ℕ) → All (λ b. b < 256) list → RunReadsBack (result_of first list front back outs)
run_reads_back first list front back outs bytes = run_back (result_of first list front back outs) (run_number first list front back outs) (result_told first list front back outs bytes)

-- from the result to the code's answer
module _ (r : Either Left Refusal) (front back outs : List ℕ) where
  pub tellable : {s : Result} → ran_of r front back outs ≡ s → SmallRun s.place s.size → Tellable r
  tellable e T = go r (rw e T)
    where
      go : (r : Either Left Refusal) → SmallRun (ran_of r front back outs).place (ran_of r front back outs).size → Tellable r
      go (Ok l) T = T
      go (Err k) T = tt
