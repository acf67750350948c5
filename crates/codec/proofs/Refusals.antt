-- Every answer is a finished result or one refusal, by a number of a list.
use mathlib.Core.Path.{refl}
use mathlib.Core.Logic.{inl, inr}
use mathlib.Core.List.{List, [], ◌∷◌, ◌++◌}
use Prim.Native.Nat.{ℕ, ◌<◌}
use native.Mathlib.Omega.{arith}
use lib.Seq.{take-append_seam, drop-append_seam}
use Rattle.lists.specs.Lists.{Mem, All}
use Rattle.lists.proofs.Lists.{here, mem_left, mem_right, all_mem}
use Rattle.codec.specs.Answer.{Outcome, refuse, write, Answer, refusal, whole, written}
use Rattle.codec.specs.TwoOutputs.{BothOutcome, refuse_both, write_both, BothAnswer, refusal_both, written_both}
use Rattle.codec.proofs.Answers.{written_is}
use Rattle.codec.proofs.TwoOutputs.{both_is}
use Rattle.codec.specs.Refusals.{Refuses, number, writes, Proper, Finished, Refusal, Settled, RefusesBoth, number_both, writes_both, BothRefusal, BothSettled}

-- the two cases of an answer
pub whole_finished : (bs out : List ℕ) → Finished bs out (whole bs out)
whole_finished bs out = record { zero = refl; told = refl; result = take-append_seam bs _; beyond = drop-append_seam bs _ }

pub refusal_refuses : {ks : List ℕ} {k : ℕ} (out : List ℕ) → Mem k ks → Proper k → Refusal ks out (refusal k out)
refusal_refuses out m p = record { published = m; proper = p; nothing = refl; untouched = refl }

-- an operation that refuses by ks, with its output looked at: by ks or by 8
pub settled : {ks : List ℕ} (o : Outcome) (out : List ℕ) → All Proper ks → Refuses ks o → Settled (ks ++ (8 ∷ [])) o out (written o out)
unfolding written
settled (refuse k) out P (number m) = inr (refusal_refuses out (mem_left (8 ∷ []) m) (all_mem P m))
settled {ks} (write bs) out P writes =
    elim (written_is bs out) [
      | inl w ↦ inl (bs, refl, rw w.1 (whole_finished bs out))
      | inr w ↦ inr (rw w.1 (refusal_refuses out (mem_right ks here) (omega arith, omega arith)))
    ]

-- so its number is one of two bytes
pub small_number : {ks : List ℕ} {o : Outcome} {out : List ℕ} {a : Answer} → Settled ks o out a → a.number < 65536
small_number (inl F) = omega (arith, F.2.zero)
small_number (inr R) = R.proper.1

-- The same of an operation with two outputs.
module _ {A : Type 0} (out : List ℕ) (ys : List A) where
  refusal_both_lem : {ks : List ℕ} {k : ℕ} → Mem k ks → Proper k → BothRefusal ks out ys (refusal_both k out ys)
  refusal_both_lem m p = record { first = refusal_refuses out m p; nothing = refl; untouched = refl }

  pub settled_both : {ks : List ℕ} (o : BothOutcome A) → All Proper ks → RefusesBoth ks o → BothSettled (ks ++ (8 ∷ [])) o out ys (written_both o out ys)
  unfolding written_both
  settled_both (refuse_both k) P (number_both m) = inr (refusal_both_lem (mem_left (8 ∷ []) m) (all_mem P m))
  settled_both {ks} (write_both bs xs) P writes_both =
      elim (both_is bs out xs ys) [
        | inl w ↦ inl (bs, xs, refl, rw w.1 (record { first = whole_finished bs out; told = refl; result = take-append_seam xs _; beyond = drop-append_seam xs _ }))
        | inr w ↦ inr (rw w.1 (refusal_both_lem (mem_right ks here) (omega arith, omega arith)))
      ]

pub small_both : {A : Type 0} {ks : List ℕ} {o : BothOutcome A} {out : List ℕ} {ys : List A} {d : BothAnswer A} → BothSettled ks o out ys d → d.answer.number < 65536
small_both (inl F) = omega (arith, F.3.first.zero)
small_both (inr R) = R.first.proper.1
