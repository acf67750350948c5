-- Demand 1: every answer is a finished result or one refusal. "A refusal gives its number and zeros, and changes no lent memory. Success gives 0; bytes or records beyond the result stay."
-- One claim about every public operation, every input and everything lent to it.
-- `Settled` and `BothSettled` are the two cases for an operation that writes one output or two (crate codec, specs/Refusals.antt). The lists of numbers are document 01's, under each operation, and the requests': 23 "right after 7" (xi), and
-- 19 for the label's calls "after 7 and before 8" (ii).
use Rattle.std.specs.Prelude.{◌≡◌, ◌⊎◌, List, [], ◌∷◌, ℕ, length, take, drop}
use Rattle.lists.specs.Lists.{Mem}
use Rattle.polygon.specs.Polygon.{Polygon}
use Rattle.codec.specs.Answer.{Outcome, written}
use Rattle.codec.specs.TwoOutputs.{BothOutcome, written_both}
use Rattle.codec.specs.Numbers.{run16}
use Rattle.sheet.specs.Sheet.{held, read_sheet, ordered}
use Rattle.codec.specs.Refusals.{Proper, Settled, BothSettled}
use Rattle.edit.specs.Rules.{add_ear, remove_ear, flip}
use Rattle.edit.specs.Calls.{edited}
use Rattle.seam.specs.Join.{joined_sheets}
use Rattle.cut.specs.Cut.{cut_sheet}
use Rattle.edit_list.specs.Script.{script_of}
use Rattle.edit_list.specs.Desk.{begin, numbers_of}
use Rattle.edit_list.specs.Result.{Result, finished, result_of}
use Rattle.umbrella.specs.Best.{plan_of}
use Rattle.plan.specs.Answer.{PlanAnswer, counts_of, planned}
use Rattle.chart.specs.Chart.{Chart}
use Rattle.chart.specs.Decode.{chart_in}
use Rattle.nearest.specs.declared.Cell.{Cell}
use Rattle.nearest.specs.Nearest.{none, nearest}
use Rattle.chart_reader.specs.Reader.{chart_read}
use Rattle.chart_reader.specs.Follow.{FollowAnswer, nearest_bar}
use Rattle.draw.specs.Answer.{drawn, charted_both}
use Rattle.draw.specs.Label.{label as fifteen, labelled, charted_both_within}

-- an operation that is to do o, whatever output is lent
abbrev pub Answers : List ℕ → Outcome → Type 0
Answers ks o = (out : List ℕ) → Settled ks o out (written o out)

-- Plan, which writes nothing
pub record PlanFinished (p : Polygon) (a : PlanAnswer) : Type 0 where
  pub zero : a.number ≡ 0
  pub counts : a ≡ counts_of (plan_of p)

pub record PlanRefusal (ks : List ℕ) (a : PlanAnswer) : Type 0 where
  pub published : Mem a.number ks
  pub proper : Proper a.number
  pub no_levels : a.levels ≡ 0
  pub no_umbrellas : a.umbrellas ≡ 0
  pub no_stems : a.stems ≡ 0

abbrev pub PlanAnswers : List ℕ → List ℕ → Type 0
PlanAnswers ks s = ((p : Polygon) × (read_sheet s ≡ held p) × PlanFinished p (planned s)) ⊎ PlanRefusal ks (planned s)

-- an operation with two outputs that is to do o, whatever is lent: Draw with the bar list, which writes bytes and records, and Cut, which writes two sheets
abbrev pub BothAnswers : {A : Type 0} → List ℕ → BothOutcome A → Type 0
BothAnswers {A} ks o = (out : List ℕ) (ys : List A) → BothSettled ks o out ys (written_both o out ys)

-- a list of edits, run over two buffers, with the numbers of the edits written to a third output, two bytes each
abbrev pub numbers_out : List ℕ → List ℕ → List ℕ → List ℕ → List ℕ
numbers_out first list front back = run16 (numbers_of first (begin first front back) (script_of list))

pub record RunFinished (first list front back outs : List ℕ) (r : Result) : Type 0 where
  pub zero : r.number ≡ 0
  pub all : r ≡ finished first list front back outs
  pub result : take (length (numbers_out first list front back)) r.outs ≡ numbers_out first list front back
  pub beyond : drop (length (numbers_out first list front back)) r.outs ≡ drop (length (numbers_out first list front back)) outs

pub record RunRefusal (ks front back outs : List ℕ) (r : Result) : Type 0 where
  pub published : Mem r.number ks
  pub proper : Proper r.number
  pub no_place : r.place ≡ 0
  pub nothing : r.size ≡ 0
  pub front_untouched : r.front ≡ front
  pub back_untouched : r.back ≡ back
  pub outs_untouched : r.outs ≡ outs

abbrev pub RunAnswers : List ℕ → List ℕ → List ℕ → Type 0
RunAnswers ks first list = (front back outs : List ℕ)
    → RunFinished first list front back outs (result_of first list front back outs) ⊎ RunRefusal ks front back outs (result_of first list front back outs)

-- The nearest bar of request (x), which writes nothing either
pub record FoundFinished (c : Chart) (e : Cell × Cell) (a : FollowAnswer) : Type 0 where
  pub zero : a.number ≡ 0
  pub bar : a.found ≡ nearest c.bar c.n e

pub record FoundRefusal (ks : List ℕ) (a : FollowAnswer) : Type 0 where
  pub published : Mem a.number ks
  pub proper : Proper a.number
  pub nothing : a.found ≡ none

abbrev pub FoundAnswers : List ℕ → List ℕ → Cell × Cell → Type 0
FoundAnswers ks s e = FoundFinished (chart_in s) e (nearest_bar s e) ⊎ FoundRefusal ks (nearest_bar s e)

pub record DemandOne : Type 0 where
  -- Set in order
  pub order : (s : List ℕ) → Answers (1 ∷ 2 ∷ 3 ∷ 4 ∷ 5 ∷ 6 ∷ 7 ∷ 23 ∷ 8 ∷ []) (ordered s)
  -- Add a corner on side i. "1 to 7 as above; 9: i ≥ n; 10: n is 1,024; 8."
  pub add : (s : List ℕ) (i : ℕ) → Answers (1 ∷ 2 ∷ 3 ∷ 4 ∷ 5 ∷ 6 ∷ 7 ∷ 23 ∷ 9 ∷ 10 ∷ 8 ∷ []) (edited (add_ear i) s)
  -- Take off corner k. "1 to 7; 9: k ≥ n; 11: n is 3; 12: a diagonal ends at k; 8."
  pub take_off : (s : List ℕ) (k : ℕ) → Answers (1 ∷ 2 ∷ 3 ∷ 4 ∷ 5 ∷ 6 ∷ 7 ∷ 23 ∷ 9 ∷ 11 ∷ 12 ∷ 8 ∷ []) (edited (remove_ear k) s)
  -- Turn diagonal (a,b). "1 to 7; 9: a or b ≥ n; 13: the part lacks it; 8."
  pub turn : (s : List ℕ) (a b : ℕ) → Answers (1 ∷ 2 ∷ 3 ∷ 4 ∷ 5 ∷ 6 ∷ 7 ∷ 23 ∷ 9 ∷ 13 ∷ 8 ∷ []) (edited (flip a b) s)
  -- Join the second sheet's part on side i of the first's (request (i)): the first sheet's, the second's, "then 9 .., 10 .., then 8."
  pub join : (s t : List ℕ) (i : ℕ) → Answers (1 ∷ 2 ∷ 3 ∷ 4 ∷ 5 ∷ 6 ∷ 7 ∷ 23 ∷ 9 ∷ 10 ∷ 8 ∷ []) (joined_sheets s t i)
  -- Cut along the diagonal (a,b) (request (iii)): those of turning a diagonal, "with 8 if either output is too short."
  pub cut : (s : List ℕ) (a b : ℕ) → BothAnswers (1 ∷ 2 ∷ 3 ∷ 4 ∷ 5 ∷ 6 ∷ 7 ∷ 23 ∷ 9 ∷ 13 ∷ 8 ∷ []) (cut_sheet s a b)
  -- Plan. "1 to 7."
  pub plan : (s : List ℕ) → PlanAnswers (1 ∷ 2 ∷ 3 ∷ 4 ∷ 5 ∷ 6 ∷ 7 ∷ 23 ∷ []) s
  -- Draw. "1 to 7; 8: either output too short." Without the bar list and with it (`drawn_with_bars`, `labelled_with_bars`):
  pub draw : (s : List ℕ) → Answers (1 ∷ 2 ∷ 3 ∷ 4 ∷ 5 ∷ 6 ∷ 7 ∷ 23 ∷ 8 ∷ []) (drawn s)
  pub draw_bars : (s : List ℕ) → BothAnswers (1 ∷ 2 ∷ 3 ∷ 4 ∷ 5 ∷ 6 ∷ 7 ∷ 23 ∷ 8 ∷ []) (charted_both (read_sheet s))
  -- Draw on a label: "19 .. after 7 and before 8" (request (ii)).
  pub label : (s : List ℕ) → Answers (1 ∷ 2 ∷ 3 ∷ 4 ∷ 5 ∷ 6 ∷ 7 ∷ 23 ∷ 19 ∷ 8 ∷ []) (labelled s)
  pub label_bars : (s : List ℕ) → BothAnswers (1 ∷ 2 ∷ 3 ∷ 4 ∷ 5 ∷ 6 ∷ 7 ∷ 23 ∷ 19 ∷ 8 ∷ []) (charted_both_within fifteen (read_sheet s))
  -- Read a chart. "14 .. 15 .. 16 .. 17 .. 18 .. 8."
  pub read_chart_lem : (c : List ℕ) → Answers (14 ∷ 15 ∷ 16 ∷ 17 ∷ 18 ∷ 8 ∷ []) (chart_read c)
  -- The nearest bar: 14, 15, 9 (crate chart_reader, specs/Follow.antt).
  pub nearest_bar_lem : (c : List ℕ) (e : Cell × Cell) → FoundAnswers (14 ∷ 15 ∷ 9 ∷ []) c e
  -- A list of edits in bytes: 32 to 35 (crate edit_list, specs/Script.antt).
  pub run : (first list : List ℕ) → RunAnswers (32 ∷ 33 ∷ 34 ∷ 35 ∷ []) first list
