-- Two parts, each to its output: both are written, or none.
use mathlib.Core.Path.{◌≡◌, sym, ◌∙◌}
use mathlib.Core.Logic.{◌⊎◌, inl, inr}
use mathlib.Core.List.{List}
use Prim.Native.Nat.{ℕ, ◌<◌}
use lib.ListN.{length}
use Rattle.codec.specs.Answer.{whole}
use Rattle.codec.specs.TwoOutputs.{BothAnswer, refusal_both, write_both, written_both}
use Rattle.codec.proofs.TwoOutputs.{both_is, both_short}

-- the two sheets, and the two outputs
module _ (first second inner rest : List ℕ) where
  abbrev Short : Type 0
  Short = (length inner < length first) ⊎ (length rest < length second)

  pub one_short : Short → refusal_both 8 inner rest ≡ written_both (write_both first second) inner rest
  one_short s = sym (both_short first inner second rest s)

  -- k and m are the sizes that the code tells, o and p what the outputs hold
  pub both_told : {k m : ℕ} {o p : List ℕ} → k ≡ length first → m ≡ length second → ¬ Short → o ≡ (whole first inner).bytes → p ≡ (whole second rest).bytes
      → ◌≡◌ {A = BothAnswer ℕ} (record { answer = record { number = 0; size = k; bytes = o }; count = m; second = p }) (written_both (write_both first second) inner rest)
  both_told K M f e d =
      elim (both_is first inner second rest) [
        | inl w ↦ (λ i. record { answer = record { number = 0; size = K i; bytes = e i }; count = M i; second = d i }) ∙ sym w.1
        | inr w ↦ absurd (f w.0)
      ]
