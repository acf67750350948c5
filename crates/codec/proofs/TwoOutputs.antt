-- Laws of answers with two outputs: refused, too short, whole.
use mathlib.Core.Path.{◌≡◌, refl, ap}
use mathlib.Core.Logic.Dec
use mathlib.Core.Logic.{◌⊎◌, inl, inr}
use mathlib.Core.List.{List}
use Prim.Native.Nat.{ℕ, ◌≤◌, ◌<◌}
use native.Mathlib.Decide.{dec_le}
use native.Mathlib.Omega.{arith}
use lib.ListN.{length}
use Rattle.codec.specs.Answer.{write, refusal, whole, written, OnlyShort}
use Rattle.codec.specs.TwoOutputs.{write_both, BothAnswer, refusal_both, whole_both, fit_both, written_both, answered_both, BothPackable}
use Rattle.codec.specs.Unpacked.{BothReadsBack}
use Rattle.std.specs.Prelude.{Result, Ok, Err}
use Rattle.codec.specs.declared.refusal.Refusal.{Refusal}
use Rattle.codec.proofs.Answers.{written_fits, written_short}

module _ {A : Type 0} (bs out : List ℕ) (xs ys : List A) where
  -- one of the two outputs is too short
  abbrev pub Short : Type 0
  Short = (length out < length bs) ⊎ (length ys < length xs)

  -- what is to be written to both is written whole, or refused by 8 because one is too short
  pub both_is : (((length bs ≤ length out) × (length xs ≤ length ys)) × (written_both (write_both bs xs) out ys ≡ whole_both bs xs out ys)) ⊎ (Short × (written_both (write_both bs xs) out ys ≡ refusal_both 8 out ys))
  unfolding written_both fit_both Dec.and
  both_is = go (dec_le (length bs) (length out)) (dec_le (length xs) (length ys))
    where
      go : (d : Dec (length bs ≤ length out)) (e : Dec (length xs ≤ length ys)) → let w = fit_both (Dec.and d e) bs xs out ys in
          (((length bs ≤ length out) × (length xs ≤ length ys)) × (w ≡ whole_both bs xs out ys)) ⊎ (Short × (w ≡ refusal_both 8 out ys))
      go (yes p) (yes q) = inl ((p, q), refl)
      go (yes p) (no q) = inr (inr (omega arith), refl)
      go (no p) e = inr (inl (omega arith), refl)

  pub both_short : Short → written_both (write_both bs xs) out ys ≡ refusal_both 8 out ys
  both_short h = elim both_is [ inl w ↦ absurd (elim h [ inl k ↦ omega arith | inr k ↦ omega arith ]) | inr w ↦ w.1 ]

  -- an answer that is not a refusal is whole
  pub both_done : (written_both (write_both bs xs) out ys).answer.number ≡ 0 → written_both (write_both bs xs) out ys ≡ whole_both bs xs out ys
  both_done e = elim both_is [ inl w ↦ w.1 | inr w ↦ absurd (omega (arith, ap (λ (a : BothAnswer A). a.answer.number) w.1)) ]

  -- only a short output can stop what is to be written
  pub only_short_both : OnlyShort Short (written_both (write_both bs xs) out ys).answer.number
  only_short_both =
      elim both_is [
        | inl w ↦ rw w.1 (record { done_or_short = inl refl; eight = (λ e. absurd (omega arith), λ h. absurd (elim h [ inl k ↦ omega arith | inr k ↦ omega arith ])) })
        | inr w ↦ rw w.1 (record { done_or_short = inr refl; eight = (λ e. w.0, λ h. refl) })
      ]

  -- with room in the second output the answer is that of the first alone
  pub both_one : length xs ≤ length ys
      → ((written (write bs) out ≡ whole bs out) × (written_both (write_both bs xs) out ys ≡ whole_both bs xs out ys)) ⊎ ((written (write bs) out ≡ refusal 8 out) × (written_both (write_both bs xs) out ys ≡ refusal_both 8 out ys))
  both_one h =
      elim both_is [
        | inl w ↦ inl (written_fits bs out w.0.0, w.1)
        | inr w ↦ inr (written_short bs out (elim w.0 [ inl k ↦ k | inr k ↦ absurd (omega arith) ]), w.1)
      ]

-- In one number, for C.
pub reads_back_both : (d : BothAnswer ℕ) → d.answer.number < 65536 → d.answer.size < 65536 → d.count < 65536 → BothReadsBack d
reads_back_both d n k m = record { number_back = omega arith; inner_back = omega arith; rest_back = omega arith; one_number = omega arith }

pub packable_both : (w : Result (ℕ × ℕ) Refusal) (out ys : List ℕ) {d : BothAnswer ℕ} → answered_both w out ys ≡ d → d.answer.size < 65536 → d.count < 65536 → BothPackable w
packable_both (Ok (k, m)) out ys e h i = (omega (arith, ap (λ (x : BothAnswer ℕ). x.answer.size) e), omega (arith, ap (λ (x : BothAnswer ℕ). x.count) e))
packable_both (Err r) out ys e h i = tt
