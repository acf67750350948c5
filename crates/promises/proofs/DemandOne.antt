-- Demand 1 is proved, by the laws of every operation that writes one output or two (crate codec, proofs/Refusals.antt) and the cases of the other three.
use mathlib.Core.Path.{◌≡◌, refl}
use mathlib.Core.Logic.{◌⊎◌, inl, inr}
use mathlib.Core.List.{List, [], ◌∷◌, ◌++◌}
use mathlib.Core.Option.{Option}
use Prim.Native.Nat.{ℕ}
use native.Mathlib.Decide.{ℕ_discrete}
use native.Mathlib.Omega.{arith}
use lib.ListN.{length}
use lib.Seq.{take-append_seam, drop-append_seam}
use Rattle.lists.specs.Lists.{Mem, all_cons, all_nil, head, tail, choose, numbers}
use Rattle.lists.proofs.Lists.{all_append, all_mem, here, mem_left, mem_right}
use Rattle.lists.proofs.Places.{numbers_mem}
use Rattle.polygon.specs.Polygon.{Polygon}
use Rattle.codec.specs.TwoOutputs.{refuse_both, write_both}
use Rattle.sheet.specs.Sheet.{Reading, held, read_sheet}
use Rattle.sheet.specs.Refusals.{sheet_tests, RefusedBy, by, holds}
use Rattle.sheet.proofs.Refusals.{read_refuses, tests_proper, ordered_settled}
use Rattle.codec.specs.Refusals.{RefusesBoth, number_both, writes_both}
use Rattle.codec.proofs.Refusals.{settled_both}
use Rattle.edit.specs.Rules.{add_ear, remove_ear, flip}
use Rattle.edit.proofs.Refusals.{edited_settled}
use Rattle.seam.proofs.Answers.{joined_settled}
use Rattle.cut.proofs.Answers.{cut_settled}
use Rattle.edit_list.specs.Script.{fault_of}
use Rattle.edit_list.specs.Result.{numbered, finished, unchanged, result_of}
use Rattle.edit_list.proofs.Tests.{Number, fault_number}
use Rattle.plan.specs.Answer.{answer, planned}
use Rattle.chart.specs.Chart.{bars_of, chart_of}
use Rattle.chart.specs.Bytes.{bytes_of}
use Rattle.chart.specs.Decode.{chart_in}
use Rattle.nearest.specs.declared.Cell.{Cell}
use Rattle.chart_reader.specs.Follow.{FollowAnswer}
use Rattle.chart_reader.proofs.Following.{Follows, by_14, by_15, by_9, found, by_answer}
use Rattle.chart_reader.proofs.Refusals.{chart_settled}
use Rattle.draw.specs.Answer.{charted_both}
use Rattle.draw.specs.Label.{tape, label, Keeps, keeps?, charted_both_within}
use Rattle.draw.proofs.Label.{tape_both}
use Rattle.draw.proofs.Refusals.{drawn_settled, labelled_settled}
use Rattle.promises.specs.DemandOne.{PlanAnswers, PlanFinished, PlanRefusal, BothAnswers, numbers_out, FoundFinished, FoundRefusal, FoundAnswers, RunFinished, RunRefusal, RunAnswers, DemandOne}

-- the numbers of the tests of a list
abbrev list_tests : List ℕ
list_tests = 32 ∷ 33 ∷ 34 ∷ 35 ∷ []

plan_answers : (s : List ℕ) → PlanAnswers sheet_tests s
unfolding planned answer
plan_answers s = go (read_sheet s) refl (read_refuses s)
  where
    go : (r : Reading) → read_sheet s ≡ r → RefusedBy sheet_tests r → ((p : Polygon) × (read_sheet s ≡ held p) × PlanFinished p (answer r)) ⊎ PlanRefusal sheet_tests (answer r)
    go r e (by m) = inr (record { published = m; proper = all_mem tests_proper m; no_levels = refl; no_umbrellas = refl; no_stems = refl })
    go r e (holds {p}) = inl (p, e, record { zero = refl; counts = refl })

-- a drawing within a limit of rows, which a part may be beyond
draw_refuses : (ks : List ℕ) (limit : Option ℕ) → ((p : Polygon) → ¬ Keeps limit (chart_of p).rows → Mem 19 ks) → (s : List ℕ)
    → RefusesBoth (sheet_tests ++ ks) (charted_both_within limit (read_sheet s))
unfolding charted_both_within choose
draw_refuses ks limit tall s = go (read_sheet s) (read_refuses s)
  where
    kept : (p : Polygon) (d : Dec (Keeps limit (chart_of p).rows))
        → RefusesBoth (sheet_tests ++ ks) (choose d (write_both (bytes_of (chart_of p)) (bars_of (chart_of p))) (refuse_both 19))
    kept p (yes w) = writes_both
    kept p (no w) = number_both (mem_right sheet_tests (tall p w))

    go : (r : Reading) → RefusedBy sheet_tests r → RefusesBoth (sheet_tests ++ ks) (charted_both_within limit r)
    go r (by m) = number_both (mem_left ks m)
    go r (holds {p}) = kept p (keeps? limit (chart_of p).rows)

draw_answers : (s : List ℕ) → BothAnswers (sheet_tests ++ (8 ∷ [])) (charted_both (read_sheet s))
draw_answers s out bars = settled_both out bars _ tests_proper (rw (tape_both (read_sheet s)) at (draw_refuses [] tape (λ p f. absurd (f tt)) s))

label_answers : (s : List ℕ) → BothAnswers (sheet_tests ++ (19 ∷ 8 ∷ [])) (charted_both_within label (read_sheet s))
label_answers s out bars = settled_both out bars _ (all_append tests_proper (all_cons (omega arith, omega arith) all_nil)) (draw_refuses (19 ∷ []) label (λ p f. here) s)

found_answers : (c : List ℕ) (e : Cell × Cell) → FoundAnswers (14 ∷ 15 ∷ 9 ∷ []) c e
found_answers c e = go (by_answer c e refl)
  where
    go : {a : FollowAnswer} → Follows c e a → FoundFinished (chart_in c) e a ⊎ FoundRefusal (14 ∷ 15 ∷ 9 ∷ []) a
    go (by_14 f) = inr (record { published = head refl; proper = (omega arith, omega arith); nothing = refl })
    go (by_15 F f) = inr (record { published = tail (head refl); proper = (omega arith, omega arith); nothing = refl })
    go (by_9 F B f) = inr (record { published = tail (tail (head refl)); proper = (omega arith, omega arith); nothing = refl })
    go (found F B A) = inl (record { zero = refl; bar = refl })

run_answers : (first list : List ℕ) → RunAnswers list_tests first list
unfolding result_of choose finished numbered numbers
run_answers first list front back outs =
    let k = fault_of list (length front) (length back) (length outs) in
    go k (ℕ_discrete k 0) (fault_number list (length front) (length back) (length outs))
  where
    go : (j : ℕ) (d : Dec (j ≡ 0)) → Number j → let r = choose d (finished first list front back outs) (unchanged j front back outs) in
        RunFinished first list front back outs r ⊎ RunRefusal list_tests front back outs r
    go j (yes z) n = inl (record { zero = refl; all = refl; result = take-append_seam (numbers_out first list front back) _; beyond = drop-append_seam (numbers_out first list front back) _ })
    go j (no z) (inl n) = absurd (z n)
    go j (no z) (inr n) =
        inr (record {
          published = numbers_mem 4 32 j (omega arith) (omega arith);
          proper = (omega arith, omega arith);
          no_place = refl;
          nothing = refl;
          front_untouched = refl;
          back_untouched = refl;
          outs_untouched = refl;
        })

pub demand_one : DemandOne
demand_one = record {
  order = ordered_settled;
  add = λ s i. edited_settled (add_ear i) s;
  take_off = λ s k. edited_settled (remove_ear k) s;
  turn = λ s a b. edited_settled (flip a b) s;
  join = joined_settled;
  cut = cut_settled;
  plan = plan_answers;
  draw = drawn_settled;
  draw_bars = draw_answers;
  label = labelled_settled;
  label_bars = label_answers;
  read_chart_lem = chart_settled;
  nearest_bar_lem = found_answers;
  run = run_answers;
}
