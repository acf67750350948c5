-- What the nearest bar of a chart is, by the first test that fails.
use mathlib.Core.Path.{◌≡◌, refl, ap, sym, subst, ◌∙◌}
use mathlib.Core.List.{List}
use Prim.Native.Nat.{ℕ, ◌≤◌, ◌<◌}
use native.Mathlib.Omega.{arith}
use Rattle.std.specs.Prelude.{Result, Option}
use Rattle.codec.specs.declared.refusal.Refusal.{Refusal}
use Rattle.lists.specs.Lists.{choose}
use Rattle.lists.proofs.Lists.{choose_yes, choose_no}
use Rattle.chart.specs.Chart as chart
use Rattle.chart.specs.Decode.{count_in, chart_in}
use Rattle.nearest.specs.declared.Cell.{Cell}
use Rattle.nearest.specs.BarRule.{BarRule}
use Rattle.nearest.specs.Nearest.{Found, none, bar, nearest}
use Rattle.nearest.proofs.Line.{of_nearest}
use Rattle.chart_reader.specs.Formed.{Formed, formed?}
use Rattle.chart_reader.specs.Reader.{bars?}
use Rattle.chart_reader.specs.Follow.{FollowAnswer, follow_refusal, Asked, asked?, nearest_bar, followed_of, value_of, FoundReadsBack}

-- the answer with nothing refused
abbrev pub nearest_is : Found → FollowAnswer
nearest_is f = record { number = 0; found = f }

-- small enough for one number
abbrev Small : FollowAnswer → Type 0
Small a = (a.number < 65536) × (value_of a.found ≤ 1024)

value_most : (bars : ℕ → chart.Bar) (n : ℕ) (e : Cell × Cell) (f : Found) → nearest bars n e ≡ f → value_of f ≤ n
value_most bars n e none h = omega arith
value_most bars n e (bar x) h = omega (arith, (of_nearest bars n e x h).corner)

module _ (s : List ℕ) (e : Cell × Cell) where
  -- a question is refused by the number of the first test that fails, or the nearest bar is found
  pub data Follows : FollowAnswer → Type 0 where
    by_14 : ¬ Formed s → Follows (follow_refusal 14)
    by_15 : Formed s → ¬ BarRule (chart_in s) → Follows (follow_refusal 15)
    by_9 : Formed s → BarRule (chart_in s) → ¬ Asked (chart_in s) e → Follows (follow_refusal 9)
    found : Formed s → BarRule (chart_in s) → Asked (chart_in s) e → Follows (nearest_is (nearest (chart_in s).bar (count_in s) e))

  follows : Follows (nearest_bar s e)
  unfolding nearest_bar choose
  follows = go (formed? s) (bars? (chart_in s)) (asked? (chart_in s) e)
    where
      go : (d : Dec (Formed s)) (b : Dec (BarRule (chart_in s))) (a : Dec (Asked (chart_in s) e))
          → Follows (choose d (choose b (choose a (nearest_is (nearest (chart_in s).bar (count_in s) e)) (follow_refusal 9)) (follow_refusal 15)) (follow_refusal 14))
      go (no d) b a = by_14 d
      go (yes d) (no b) a = by_15 d b
      go (yes d) (yes b) (no a) = by_9 d b a
      go (yes d) (yes b) (yes a) = found d b a

  pub by_answer : {r : FollowAnswer} → nearest_bar s e ≡ r → Follows r
  by_answer h = subst Follows h follows

  pub followed_by : {r : FollowAnswer} → Follows r → nearest_bar s e ≡ r
  unfolding nearest_bar
  followed_by (by_14 d) = choose_no (formed? s) _ d
  followed_by (by_15 d b) = choose_yes (formed? s) _ d ∙ choose_no (bars? (chart_in s)) _ b
  followed_by (by_9 d b a) = choose_yes (formed? s) _ d ∙ choose_yes (bars? (chart_in s)) _ b ∙ choose_no (asked? (chart_in s) e) _ a
  followed_by (found d b a) = choose_yes (formed? s) _ d ∙ choose_yes (bars? (chart_in s)) _ b ∙ choose_yes (asked? (chart_in s) e) _ a

  -- what is found among the bars of n corners
  pub answer_is : {n : ℕ} {f : Found} → n ≡ count_in s → Formed s → BarRule (chart_in s) → Asked (chart_in s) e → f ≡ nearest (chart_in s).bar n e → nearest_is f ≡ nearest_bar s e
  answer_is c d b a h = ap nearest_is (rw (sym c) h) ∙ sym (followed_by (found d b a))

  small : {r : FollowAnswer} → Follows r → Small r
  small (by_14 d) = omega arith
  small (by_15 d b) = omega arith
  small (by_9 d b a) = omega arith
  small (found d b a) = omega (arith, d.most, value_most (chart_in s).bar (count_in s) e _ refl)

  pub found_reads_back : FoundReadsBack (nearest_bar s e)
  found_reads_back = let S = small follows in record { number_back = omega arith; corner_back = omega arith; one_number = omega arith }

  pub found_small : (f : Result (Option ℕ) Refusal) → followed_of f ≡ nearest_bar s e → value_of (followed_of f).found < 281474976710656
  found_small f h = rw h (omega (arith, small follows))
