-- The tests of an encoded list: what holds of each edit, and which number follows.
use mathlib.Core.Path.{◌≡◌, refl, ◌∙◌}
use mathlib.Core.Logic.{◌⊎◌, inl, inr}
use mathlib.Core.List.{List}
use Prim.Native.Nat.{ℕ, zero, suc, ◌+◌, ◌*◌, ◌%◌, ◌≤◌, ◌<◌}
use native.Mathlib.Decide.{dec_le, ℕ_discrete}
use native.Mathlib.Omega.{arith}
use lib.ListN.{length}
use Rattle.lists.specs.Lists.{All, all_cons, all_nil, choose}
use Rattle.lists.proofs.Lists.{choose_no, choose_yes}
use Rattle.lists.proofs.Places.{below_at}
use Rattle.edit.specs.Rules.{Edit}
use Rattle.edit_list.specs.Script.{count, edit_at, edits, script_of, Kinds, Rooms, kinds?, rooms?, test, fault_of}

-- the tests in order
module _ (s : List ℕ) (front back outs : ℕ) where
  pub fault_length : ¬ (length s % 13 ≡ 0) → fault_of s front back outs ≡ 32
  unfolding fault_of test
  fault_length a = choose_no _ _ a

  module _ (a : length s % 13 ≡ 0) where
    pub fault_kind : ¬ Kinds s → fault_of s front back outs ≡ 33
    unfolding fault_of test
    fault_kind b = choose_yes _ _ a ∙ choose_no _ _ b

    module _ (b : Kinds s) where
      pub fault_short : outs < count s * 2 → fault_of s front back outs ≡ 34
      unfolding fault_of test
      fault_short c = choose_yes _ _ a ∙ (choose_yes _ _ b ∙ choose_no _ _ (omega arith))

      module _ (c : count s * 2 ≤ outs) where
        pub fault_room : ¬ Rooms s front back → fault_of s front back outs ≡ 35
        unfolding fault_of test
        fault_room d = choose_yes _ _ a ∙ (choose_yes _ _ b ∙ (choose_yes _ _ c ∙ choose_no _ _ d))

        pub fault_none : Rooms s front back → fault_of s front back outs ≡ 0
        unfolding fault_of test
        fault_none d = choose_yes _ _ a ∙ (choose_yes _ _ b ∙ (choose_yes _ _ c ∙ choose_yes _ _ d))

-- a test by a number that is not 0 was passed, if the number is 0
passed : {P : Type 0} (k : ℕ) (d : Dec P) (r : ℕ) → test (suc k) d r ≡ 0 → P × (r ≡ 0)
unfolding test choose
passed k (yes p) r e = (p, e)
passed k (no p) r e = absurd (omega arith)

pub fault_rooms : (s : List ℕ) (front back outs : ℕ) → fault_of s front back outs ≡ 0 → Rooms s front back
unfolding fault_of
fault_rooms s front back outs e =
    let a = passed 31 (ℕ_discrete (length s % 13) 0) _ e in
    let b = passed 32 (kinds? s) _ a.1 in
    let c = passed 33 (dec_le (count s * 2) outs) _ b.1 in
    (passed 34 (rooms? s front back) _ c.1).0

-- the numbers of the tests
abbrev pub Number : ℕ → Type 0
Number r = (r ≡ 0) ⊎ ((32 ≤ r) × (r ≤ 35))

tested : {P : Type 0} (k : ℕ) (d : Dec P) {r : ℕ} → (32 ≤ k) × (k ≤ 35) → Number r → Number (test k d r)
unfolding test choose
tested k (yes p) h n = n
tested k (no p) h n = inr h

pub fault_number : (s : List ℕ) (front back outs : ℕ) → Number (fault_of s front back outs)
unfolding fault_of
fault_number s front back outs =
    tested 32 (ℕ_discrete (length s % 13) 0) (omega arith, omega arith)
    (tested 33 (kinds? s) (omega arith, omega arith)
    (tested 34 (dec_le (count s * 2) outs) (omega arith, omega arith)
    (tested 35 (rooms? s front back) {r = 0} (omega arith, omega arith) (inl refl))))

-- what holds of each edit of a list
pub edits_all : {Q : Edit × ℕ → Type 0} (s : List ℕ) (i k : ℕ) → ((j : ℕ) → j < i + k → Q (edit_at s j)) → All Q (edits s i k)
unfolding edits
edits_all s i zero f = all_nil
edits_all s i (suc k) f = all_cons (f i (omega arith)) (edits_all s (suc i) k (λ j h. f j (omega arith)))

pub length_edits : (s : List ℕ) (i k : ℕ) → length (edits s i k) ≡ k
unfolding edits
length_edits s i zero = refl
length_edits s i (suc k) = omega (arith, length_edits s (suc i) k)

pub script_rooms : (s : List ℕ) (front back : ℕ) → Rooms s front back → All (λ (x : Edit × ℕ). (x.1 ≤ front) × (x.1 ≤ back)) (script_of s)
unfolding script_of edit_at
script_rooms s front back a = edits_all s 0 (count s) (λ j h. below_at a j (omega arith))
