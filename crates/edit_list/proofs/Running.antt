-- The loop over the edits of a list, and the result by the tests.
use mathlib.Core.Path.{◌≡◌, refl, sym, ◌∙◌}
use mathlib.Core.Logic.{inl, inr}
use mathlib.Core.List.{List, [], ◌∷◌}
use Prim.Native.Nat.{ℕ, suc, ◌+◌, ◌*◌, ◌-◌, ◌≤◌, ◌<◌}
use native.Mathlib.Decide.{ℕ_discrete}
use native.Mathlib.Numerals.{add-one}
use native.Mathlib.Omega.{arith}
use lib.ListN.{length}
use lib.Seq.{sets, length-sets}
use Rattle.lists.specs.Lists.{choose}
use Rattle.lists.proofs.Lists.{choose_no, choose_yes}
use Rattle.lists.proofs.Places.{below_at}
use Rattle.lists.proofs.Stores.{sets_front}
use Rattle.codec.specs.Numbers.{bytes16, run16}
use Rattle.codec.proofs.Numbers.{length_run16}
use Rattle.edit.specs.Rules.{Edit}
use Rattle.std.proofs.Common.{Ok}
use Rattle.edit_list.specs.declared.Left.{Left}
use Rattle.edit_list.specs.Script.{count, room_at, edit_at, edits, script_of, Rooms, fault_of}
use Rattle.edit_list.specs.Desk.{Desk, begin, answer_of, desk_step, desk_after, numbers_of}
use Rattle.edit_list.specs.Steps.{Spacious, desk_by}
use Rattle.edit_list.specs.Result.{numbered, finished, unchanged, ran_of, result_of}
use Rattle.edit_list.proofs.Tests.{Number, fault_number, length_edits}
use Rattle.edit_list.proofs.Within.{Sound, spacious, step_sound}
use Rattle.edit_list.proofs.Following.{begin_sound}

length_numbers : (first : List ℕ) (d : Desk) (xs : List (Edit × ℕ)) → length (numbers_of first d xs) ≡ length xs
unfolding numbers_of
length_numbers first d [] = refl
length_numbers first d (x ∷ xs) = omega (arith, length_numbers first (desk_step first d x) xs)

module _ (first list front₀ back₀ outs₀ : List ℕ) where
  -- before edit i: what is left to do, from the desk and the output as they are, gives what all edits give from the start
  pub record Running (d : Desk) (outs : List ℕ) (i : ℕ) : Type 0 where
    pub upto : i ≤ count list
    pub sound : Sound (length front₀) (length back₀) d
    pub outs_length : length outs ≡ length outs₀
    pub desk_left : desk_after first d (edits list i (count list - i)) ≡ desk_after first (begin first front₀ back₀) (script_of list)
    pub outs_left : sets outs (i * 2) (run16 (numbers_of first d (edits list i (count list - i)))) ≡ sets outs₀ 0 (run16 (numbers_of first (begin first front₀ back₀) (script_of list)))

  pub running_begin : Running (begin first front₀ back₀) outs₀ 0
  unfolding script_of
  running_begin =
      let n : count list - 0 ≡ count list = omega arith in
      record { upto = omega arith; sound = begin_sound first front₀ back₀; outs_length = refl; desk_left = rw n; outs_left = rw n }

  module _ (rooms : Rooms list (length front₀) (length back₀)) (d : Desk) (outs : List ℕ) (i : ℕ) (R : Running d outs i) (h : i < count list) where
    pub edit_spacious : Spacious (room_at list i) d
    unfolding edit_at
    edit_spacious = spacious first d (edit_at list i) R.sound (below_at rooms i h)

    pub running_next : (e : Desk) (k : ℕ) (outs₂ : List ℕ) → e ≡ desk_step first d (edit_at list i) → k ≡ (answer_of first d (edit_at list i)).number → outs₂ ≡ sets outs (i * 2) (bytes16 k) → Running e outs₂ (i + 1)
    unfolding edits desk_after numbers_of run16 edit_at
    running_next e k outs₂ p q r =
        let n : count list - i ≡ suc (count list - suc i) = omega arith in
        let t : suc i * 2 ≡ suc (suc (i * 2)) = omega arith in
        rw (add-one i)
        (record {
          upto = h;
          sound = rw p (step_sound first d (edit_at list i) R.sound (below_at rooms i h));
          outs_length = rw r (length-sets outs (i * 2) (bytes16 k) ∙ R.outs_length);
          desk_left = rw p (rw n at R.desk_left);
          outs_left = rw (t, r, p, q) (rw n at R.outs_left);
        })

  -- after the last edit
  module _ (d : Desk) (outs : List ℕ) (i : ℕ) (R : Running d outs i) (h : count list ≤ i) where
    none_left : count list - i ≡ 0
    none_left = omega (arith, R.upto)

    pub running_desk : d ≡ desk_after first (begin first front₀ back₀) (script_of list)
    unfolding edits desk_after
    running_desk = rw none_left at R.desk_left

    pub running_outs : count list * 2 ≤ length outs₀ → outs ≡ numbered (numbers_of first (begin first front₀ back₀) (script_of list)) outs₀
    unfolding edits numbers_of run16 numbered script_of
    running_outs l =
        let ns = numbers_of first (begin first front₀ back₀) (script_of list) in
        let m : length (run16 ns) ≤ length outs₀ = omega (arith, length_run16 ns, length_numbers first (begin first front₀ back₀) (script_of list), length_edits list 0 (count list)) in
        rw none_left at R.outs_left ∙ sets_front (run16 ns) outs₀ m

-- the result by the tests
module _ (first list front back outs : List ℕ) where
  pub result_refused : (k : ℕ) → fault_of list (length front) (length back) (length outs) ≡ k → 0 < k → unchanged k front back outs ≡ result_of first list front back outs
  unfolding result_of
  result_refused k e h = rw e (sym (choose_no (ℕ_discrete k 0) (finished first list front back outs) (omega arith)))

  pub result_done : (l : Left) (front₂ back₂ outs₂ : List ℕ) → fault_of list (length front) (length back) (length outs) ≡ 0
      → desk_by l front₂ back₂ ≡ desk_after first (begin first front back) (script_of list) → outs₂ ≡ numbered (numbers_of first (begin first front back) (script_of list)) outs
      → ran_of (Ok l) front₂ back₂ outs₂ ≡ result_of first list front back outs
  unfolding result_of finished
  result_done l front₂ back₂ outs₂ e d o = rw (e, choose_yes (ℕ_discrete 0 0) _ refl, ← d, o)

  -- a result that is a refusal
  pub refusals : (k : ℕ) → (result_of first list front back outs).number ≡ k → ¬ (k ≡ 0) → (32 ≤ k) × (k ≤ 35) × (result_of first list front back outs ≡ unchanged k front back outs)
  unfolding result_of choose finished
  refusals k e h = go _ (ℕ_discrete _ 0) (fault_number list (length front) (length back) (length outs)) e
    where
      go : (j : ℕ) (d : Dec (j ≡ 0)) → Number j → (choose d (finished first list front back outs) (unchanged j front back outs)).number ≡ k
          → (32 ≤ k) × (k ≤ 35) × (choose d (finished first list front back outs) (unchanged j front back outs) ≡ unchanged k front back outs)
      go j (yes z) n e = absurd (h (sym e))
      go j (no z) (inl n) e = absurd (z n)
      go j (no z) (inr n) e = (omega arith, omega arith, rw e)
