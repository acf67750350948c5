-- Document 01, demand 3: what holds after any list of edits, as one claim about the list.
-- The list is of calls: an edit (its kind and numbers) with the bytes of the output lent. `answers s cs` are the numbers that the calls answer, one after another, each reading what the last taken one
-- wrote; `sheet_left s cs` is the sheet left (crate edit, specs/Calls.antt). The plain part p is fed the edits and the lengths of the outputs only (`lent`; specs/Model.antt).
use Rattle.std.specs.Prelude.{◌≡◌, ◌⊎◌, List, map, ℕ, ◌+◌, ◌*◌, ◌≤◌, ◌<◌, length, take}
use Rattle.lists.specs.Lists.{Mem, Sub}
use Rattle.polygon.specs.Polygon.{Edge, Polygon, Valid}
use Rattle.polygon.specs.Tree.{Tree, tree_of}
use Rattle.codec.specs.Answer.{write, Answer, written, OnlyShort}
use Rattle.sheet.specs.Sheet.{held, read_sheet}
use Rattle.edit.specs.Model.{model_numbers, left, model_sheet}
use Rattle.edit.specs.Calls.{Call, lent, answers, sheet_left}
use Rattle.umbrella.specs.Plan.{Plan, levels, umbrellas, stems}
use Rattle.umbrella.specs.Best.{plan_of}
use Rattle.umbrella.specs.Drawn.{Each}
use Rattle.plan.specs.Answer.{planned, counts_of}
use Rattle.chart.specs.Chart.{Bar, upright, Chart, NoEmptyRow, chart_of, True, Shows}
use Rattle.chart.specs.Bytes.{bytes_of, Fits}
use Rattle.draw.specs.Answer.{drawn, into_both, drawn_with_bars}

-- the part that the plain part holds after the list, its tree, the plan drawn of it, and the chart of that plan, closed up
abbrev pub part_left : Polygon → List Call → Polygon
part_left p cs = left p (map lent cs)

abbrev pub tree_left : Polygon → List Call → Tree
tree_left p cs = tree_of (part_left p cs).n (part_left p cs).ds

abbrev pub plan_left : (p : Polygon) (cs : List Call) → Plan (tree_left p cs)
plan_left p cs = plan_of (part_left p cs)

abbrev pub chart_left : Polygon → List Call → Chart
chart_left p cs = chart_of (part_left p cs)

-- For a first sheet s that holds the part p, and any list of calls:
pub record DemandThree (s : List ℕ) (p : Polygon) (cs : List Call) : Type 0 where
  -- "Each edit's number is the plain part's,"
  pub same_numbers : answers s cs ≡ model_numbers p (map lent cs)
  -- "and the sheet left after the list is, byte for byte, the plain part's normal sheet, or the first sheet if no edit was taken."
  pub same_sheet : sheet_left s cs ≡ model_sheet s p (map lent cs)
  -- That sheet is accepted: what is read from it is the plain part, which is valid.
  pub reads : read_sheet (sheet_left s cs) ≡ held (part_left p cs)
  pub valid : Valid (part_left p cs)
  -- "On that sheet Plan succeeds and gives the levels, umbrellas and stems of the plan drawn;"
  pub plan : planned (sheet_left s cs) ≡ counts_of (plan_left p cs)
  -- The plan drawn is this one and no other.
  pub plan_drawn : Each (plan_left p cs)
  pub plan_only : (q : Plan (tree_left p cs)) → Each q → q ≡ plan_left p cs
  -- "no other plan of the part has fewer levels."
  pub least : (q : Plan (tree_left p cs)) → levels (plan_left p cs) ≤ levels q
  -- "Draw, .., writes the chart of that plan, .., as the chart's places and bytes above give them": the Draw that the desktop program and `bend` call, "without the bar list",
  pub drawing : drawn (sheet_left s cs) ≡ write (bytes_of (chart_left p cs))
  -- "which only 8 can stop".
  pub only_8 : (out : List ℕ) → OnlyShort (length out < length (bytes_of (chart_left p cs))) (written (drawn (sheet_left s cs)) out).number
  -- "and its bars": Draw with the bar list, which only 8 can stop.
  pub drawing_bars : (out : List ℕ) (bars : List Bar) → drawn_with_bars (sheet_left s cs) out bars ≡ into_both (chart_left p cs) out bars
  pub only_8_bars : (out : List ℕ) (bars : List Bar)
      → OnlyShort ((length out < length (bytes_of (chart_left p cs))) ⊎ (length bars < (part_left p cs).n)) (drawn_with_bars (sheet_left s cs) out bars).answer.number
  -- That chart is true and shows the part, and each of its numbers fits its two bytes.
  pub true : True (chart_left p cs)
  pub shows : Shows (chart_left p cs) (part_left p cs)
  pub fits : Fits (chart_left p cs)
  -- "The chart has two rows a level and one more, and as many columns as the sum above gives;": request (v) makes the rows a ceiling, and there is a floor; "and a drawn chart never has an empty row."
  pub rows : (chart_left p cs).rows ≤ 2 * levels (plan_left p cs) + 1
  pub rows_least : levels (plan_left p cs) + 1 ≤ (chart_left p cs).rows
  pub no_empty_row : NoEmptyRow (chart_left p cs)
  pub columns : (chart_left p cs).columns + 2 ≡ (part_left p cs).n + umbrellas (plan_left p cs) + stems (plan_left p cs)
  -- "each column from 0 to columns - 1 is named by exactly one upright stroke."
  pub named : (j : ℕ) → j < (chart_left p cs).columns → (e : Edge) × Mem (upright e j) (chart_left p cs).strokes × ((f : Edge) → Mem (upright f j) (chart_left p cs).strokes → f ≡ e)

-- "the same n and the same set", whatever the angles
pub record SamePart (p q : Polygon) : Type 0 where
  pub corners : p.n ≡ q.n
  pub there : Sub p.ds q.ds
  pub back : Sub q.ds p.ds

-- of two answers: "their lengths, their chart bytes to that length .. are equal"
abbrev pub SameBytes : Answer → Answer → Type 0
SameBytes a b = (a.size ≡ b.size) × (take a.size a.bytes ≡ take b.size b.bytes)

-- "Where two lists leave the same n and the same set, whatever the part numbers, and both Draws succeed, their lengths, their chart bytes to that length and their n bar records are equal."
pub record SameChart (s t : List ℕ) (p q : Polygon) (cs ds : List Call) : Type 0 where
  -- Draw without the bar list
  pub equal : SamePart (part_left p cs) (part_left q ds) → (out out' : List ℕ)
      → let a = written (drawn (sheet_left s cs)) out in let b = written (drawn (sheet_left t ds)) out' in
      a.number ≡ 0 → b.number ≡ 0 → SameBytes a b
  -- Draw with it
  pub equal_bars : SamePart (part_left p cs) (part_left q ds) → (out out' : List ℕ) (bars bars' : List Bar)
      → let a = drawn_with_bars (sheet_left s cs) out bars in let b = drawn_with_bars (sheet_left t ds) out' bars' in
      a.answer.number ≡ 0 → b.answer.number ≡ 0 → SameBytes a.answer b.answer × (take (part_left p cs).n a.second ≡ take (part_left q ds).n b.second)
