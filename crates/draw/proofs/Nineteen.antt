-- Refusal 19 comes exactly if the sheet holds a part whose chart has more rows than the limit allows, whatever is lent. By the cases of what was read, with any limit.
use mathlib.Core.Path.{◌≡◌, refl, ap}
use mathlib.Core.Logic.{◌↔◌, inl, inr}
use mathlib.Core.List.{List}
use mathlib.Core.Option.{Option}
use Prim.Native.Nat.{ℕ}
use native.Mathlib.Omega.{arith}
use Rattle.lists.specs.Lists.{All, all_nil, all_cons, numbers}
use Rattle.lists.proofs.Lists.{all_append, all_imp, all_mem}
use Rattle.lists.proofs.Places.{numbers_in}
use Rattle.polygon.specs.Polygon.{Polygon}
use Rattle.codec.specs.Answer.{Outcome, OnlyShort, written}
use Rattle.codec.specs.TwoOutputs.{BothOutcome, written_both}
use Rattle.codec.proofs.Answers.{only_short}
use Rattle.codec.proofs.TwoOutputs.{only_short_both}
use Rattle.sheet.specs.Sheet.{Reading, refused, held, read_sheet}
use Rattle.sheet.specs.Refusals.{sheet_tests, RefusedBy, by, holds}
use Rattle.sheet.proofs.Refusals.{read_refuses}
use Rattle.chart.specs.Chart.{Bar, bars_of, chart_of}
use Rattle.chart.specs.Bytes.{bytes_of}
use Rattle.draw.specs.Answer.{charted, charted_both}
use Rattle.draw.specs.Label.{Keeps, keeps?, charted_within, charted_both_within}
use Rattle.draw.proofs.Label.{within_charted, within_both, over_charted, over_both}

-- no test of a sheet has the number
other_numbers : All (λ k. ¬ (k ≡ 19)) sheet_tests
unfolding numbers
other_numbers = all_append {xs = numbers 7 1} (all_imp (λ k h e. omega (arith, h, e)) (numbers_in 7 1)) (all_cons (λ e. omega (arith, e)) all_nil)

-- and an answer that only a short output can stop has not
not_short : {Short : Type 0} {k : ℕ} → OnlyShort Short k → ¬ (k ≡ 19)
not_short o e = elim o.done_or_short [ inl z ↦ omega (arith, z, e) | inr z ↦ omega (arith, z, e) ]

-- the sheet holds a part whose chart has more rows
abbrev pub TooTall : Option ℕ → Reading → Type 0
TooTall limit r = (p : Polygon) × (r ≡ held p) × (¬ Keeps limit (chart_of p).rows)

-- an answer to a reading by its number: to one refused it is that number, to a part within the limit it is not 19, and to one beyond it is
module _ (limit : Option ℕ) (number : Reading → ℕ) (of_refused : (k : ℕ) → number (refused k) ≡ k) (of_within : (p : Polygon) → Keeps limit (chart_of p).rows → ¬ (number (held p) ≡ 19))
    (of_over : (p : Polygon) → ¬ Keeps limit (chart_of p).rows → number (held p) ≡ 19) where
  by_nineteen : (r : Reading) → RefusedBy sheet_tests r → number r ≡ 19 → TooTall limit r
  by_nineteen r (by {k} m) e = absurd (all_mem other_numbers m (omega (arith, of_refused k, e)))
  by_nineteen r (holds {p}) e = go (keeps? limit (chart_of p).rows)
    where
      go : Dec (Keeps limit (chart_of p).rows) → TooTall limit (held p)
      go (yes w) = absurd (of_within p w e)
      go (no w) = (p, refl, w)

  nineteen : (s : List ℕ) → (number (read_sheet s) ≡ 19) ↔ TooTall limit (read_sheet s)
  nineteen s = (by_nineteen (read_sheet s) (read_refuses s), λ (p, e, w). rw e (of_over p w))

module _ (limit : Option ℕ) (s out : List ℕ) where
  pub within_nineteen : ((written (charted_within limit (read_sheet s)) out).number ≡ 19) ↔ TooTall limit (read_sheet s)
  unfolding charted_within charted written
  within_nineteen =
      nineteen limit (λ r. (written (charted_within limit r) out).number) (λ k. refl)
      (λ p w e. not_short (only_short (bytes_of (chart_of p)) out) (rw (within_charted limit p w) at e))
      (λ p w. ap (λ (o : Outcome). (written o out).number) (over_charted limit p w)) s

  pub both_nineteen : (bars : List Bar) → ((written_both (charted_both_within limit (read_sheet s)) out bars).answer.number ≡ 19) ↔ TooTall limit (read_sheet s)
  unfolding charted_both_within charted_both written_both
  both_nineteen bars =
      nineteen limit (λ r. (written_both (charted_both_within limit r) out bars).answer.number) (λ k. refl)
      (λ p w e. not_short (only_short_both (bytes_of (chart_of p)) out (bars_of (chart_of p)) bars) (rw (within_both limit p w) at e))
      (λ p w. ap (λ (o : BothOutcome Bar). (written_both o out bars).answer.number) (over_both limit p w)) s
