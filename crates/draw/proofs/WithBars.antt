-- A chart drawn into both outputs: the answer of the code, its bytes and its records, is the one of specs/Answer.antt.
-- Rests on the records that are filled from a chart's bytes (crate bar_list, proofs/OfChart.antt).
use mathlib.Core.Path.{◌≡◌, refl, ap, sym, ◌∙◌}
use mathlib.Core.Logic.{inl, inr}
use mathlib.Core.List.{List, [], ◌∷◌, ◌++◌, map, map-append}
use Prim.Native.Nat.{ℕ, zero, suc, ◌+◌, ◌*◌, ◌≤◌, ◌<◌}
use native.Mathlib.Omega.{arith}
use lib.ListN.{length, drop, length-map}
use Rattle.codec.specs.Answer.{Answer, refusal, write, written, answered}
use Rattle.codec.specs.TwoOutputs.{BothAnswer, refusal_both, answered_both}
use Rattle.std.specs.Prelude.{Ok}
use Rattle.codec.proofs.Answers.{written_is}
use Rattle.codec.proofs.TwoOutputs.{both_short, both_one}
use Rattle.chart.specs.Chart as chart
use Rattle.chart.specs.Chart.{bars_of}
use Rattle.chart.specs.Bytes.{bytes_of}
use Rattle.chart.proofs.Sizes.{bars_count, bytes_size}
use Rattle.chart.specs.declared.Bar.{Bar}
use Rattle.bar_list.specs.Bars.{filled}
use Rattle.chart.specs.Decode.{record_of, bar_of}
use Rattle.bar_list.proofs.OfChart.{bars_of_chart}
use Rattle.draw.specs.Answer.{into_both}

-- a record made of a bar stands for that bar
bars_back : (bs : List chart.Bar) → map bar_of (map record_of bs) ≡ bs
bars_back [] = refl
bars_back (b ∷ bs) = ap (λ (l : List chart.Bar). b ∷ l) (bars_back bs)

drop_map : (k : ℕ) (ys : List Bar) → map bar_of (drop k ys) ≡ drop k (map bar_of ys)
drop_map zero ys = refl
drop_map (suc k) [] = refl
drop_map (suc k) (y ∷ ys) = drop_map k ys

-- a chart, an output and a list of records
module _ (c : chart.Chart) (out : List ℕ) (ys : List Bar) where
  -- too few records
  pub few_records : length ys < c.n → refusal_both 8 out (map bar_of ys) ≡ into_both c out (map bar_of ys)
  few_records h = sym (both_short (bytes_of c) out (bars_of c) (map bar_of ys) (inr (omega (arith, bars_count c, length-map ys bar_of))))

  records_are : (after : List ℕ) → after ≡ bytes_of c ++ drop (length (bytes_of c)) out → map bar_of (filled after c.n ys) ≡ bars_of c ++ drop (length (bars_of c)) (map bar_of ys)
  records_are after e =
      ap (λ (l : List ℕ). map bar_of (filled l c.n ys)) e
      ∙ (ap (map bar_of) (bars_of_chart c (drop (length (bytes_of c)) out) ys)
      ∙ (map-append bar_of (map record_of (bars_of c)) (drop c.n ys)
      ∙ (ap (λ (l : List chart.Bar). l ++ map bar_of (drop c.n ys)) (bars_back (bars_of c))
      ∙ ap (λ (l : List chart.Bar). bars_of c ++ l) (drop_map c.n ys ∙ ap (λ (k : ℕ). drop k (map bar_of ys)) (sym (bars_count c))))))

  -- enough of them: the answer is that of the chart's bytes alone, and the records are filled if the chart was written
  module _ (room : c.n ≤ length ys) (after : List ℕ) where
    enough : length (bars_of c) ≤ length (map bar_of ys)
    enough = omega (arith, bars_count c, length-map ys bar_of)

    pub both_written : (k : ℕ) → answered (Ok k) after ≡ written (write (bytes_of c)) out → answered_both (Ok (k, c.n)) after (map bar_of (filled after c.n ys)) ≡ into_both c out (map bar_of ys)
    both_written k h =
        elim (both_one (bytes_of c) out (bars_of c) (map bar_of ys) enough) [
          | inl w ↦ (λ i. record { answer = (h ∙ w.0) i; count = sym (bars_count c) i; second = records_are after (ap (λ (a : Answer). a.bytes) (h ∙ w.0)) i }) ∙ sym w.1
          | inr w ↦ absurd (omega (arith, ap (λ (a : Answer). a.number) (h ∙ w.0)))
        ]

    pub none_written : (k : ℕ) → refusal k after ≡ written (write (bytes_of c)) out → refusal_both k after (map bar_of ys) ≡ into_both c out (map bar_of ys)
    none_written k h =
        elim (both_one (bytes_of c) out (bars_of c) (map bar_of ys) enough) [
          | inl w ↦ absurd (omega (arith, ap (λ (a : Answer). a.size) (h ∙ w.0), (bytes_size c).0))
          | inr w ↦ (λ i. record { answer = (h ∙ w.0) i; count = 0; second = map bar_of ys }) ∙ sym w.1
        ]

-- a chart that was written has room
pub wrote : (c : chart.Chart) (out after : List ℕ) (k : ℕ) → answered (Ok k) after ≡ written (write (bytes_of c)) out → 6 + 6 * c.n ≤ length out
wrote c out after k h = elim (written_is (bytes_of c) out) [ inl w ↦ omega (arith, w.0, (bytes_size c).0) | inr w ↦ absurd (omega (arith, ap (λ (a : Answer). a.number) (h ∙ w.1))) ]

-- the answer for enough records is that of Draw without them
pub enough_records : (c : chart.Chart) (out : List ℕ) (bars : List chart.Bar) → c.n ≤ length bars → (into_both c out bars).answer ≡ written (write (bytes_of c)) out
enough_records c out bars h =
    elim (both_one (bytes_of c) out (bars_of c) bars (omega (arith, bars_count c))) [
      | inl w ↦ ap (λ (a : BothAnswer chart.Bar). a.answer) w.1 ∙ sym w.0
      | inr w ↦ ap (λ (a : BothAnswer chart.Bar). a.answer) w.1 ∙ sym w.0
    ]
