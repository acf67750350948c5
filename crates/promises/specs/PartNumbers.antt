-- Request (xii), "Part numbers go", sentence by sentence. `skipped s` is the sheet s without bit 2 and its four bytes; `OnlyThere s t` says that s and t differ only there (crate sheet,
-- specs/Skipped.antt). "the plain part keeps none": a `Polygon` is n, the diagonals and their angles, and nothing else.
use Rattle.std.specs.Prelude.{◌≡◌, true, false, List, [], ◌∷◌, ◌++◌, map, ℕ, ◌+◌, length, take, get_or}
use Rattle.polygon.specs.Polygon.{Polygon}
use Rattle.codec.specs.Answer.{Outcome, refuse, write}
use Rattle.codec.specs.TwoOutputs.{write_both}
use Rattle.sheet.specs.Sheet.{bit2, held, read_sheet, ordered}
use Rattle.sheet.specs.Skipped.{pairs_end, skipped, OnlyThere}
use Rattle.edit.specs.Rules.{Edit}
use Rattle.edit.specs.Model.{taken}
use Rattle.edit.specs.Calls.{edited, Call, lent, answers, sheet_left}
use Rattle.seam.specs.Join.{joined_sheets}
use Rattle.cut.specs.Cut.{cut_sheet}
use Rattle.edit_list.specs.Result.{Result, result_of, packed_run}
use Rattle.log_line.specs.declared.Facts.{Facts}
use Rattle.log_line.specs.Line.{line}
use Rattle.chart_reader.specs.Reader.{chart_read}
use Rattle.promises.specs.SameDrawing.{SameDrawing}

-- bit 2 of the map byte does not stand in the sheet; in what an operation writes, if it is not refused
abbrev pub NoBit2 : List ℕ → Type 0
NoBit2 s = bit2 (get_or s 0 0) ≡ 0

abbrev pub WritesNone : Outcome → Type 0
WritesNone (refuse k) = Unit {0}
WritesNone (write bs) = NoBit2 bs

-- what two runs of an encoded list of edits give: all the same, but for the length of the first sheet where that is the one left, which is not told
pub record SameRun (r q : Result) : Type 0 where
  pub number : r.number ≡ q.number
  pub place : r.place ≡ q.place
  pub front : r.front ≡ q.front
  pub back : r.back ≡ q.back
  pub outs : r.outs ≡ q.outs
  pub told : packed_run r ≡ packed_run q

-- every operation that reads a sheet answers both sheets alike, whatever is lent, and so does a list of calls of the edits
pub record SameAnswers (s t : List ℕ) : Type 0 where
  pub order : ordered s ≡ ordered t
  pub edit : (e : Edit) → edited e s ≡ edited e t
  pub join_first : (u : List ℕ) (i : ℕ) → joined_sheets s u i ≡ joined_sheets t u i
  pub join_second : (u : List ℕ) (i : ℕ) → joined_sheets u s i ≡ joined_sheets u t i
  pub cut : (a b : ℕ) → cut_sheet s a b ≡ cut_sheet t a b
  pub drawing : SameDrawing s t
  pub run : (list front back outs : List ℕ) → SameRun (result_of s list front back outs) (result_of t list front back outs)
  pub numbers : (cs : List Call) → answers s cs ≡ answers t cs
  pub left : (cs : List Call) → read_sheet (sheet_left s cs) ≡ read_sheet (sheet_left t cs)

-- the sheet left after a list of edits, from a sheet s that holds the part p
pub record LeftBy (s : List ℕ) (p : Polygon) (cs : List Call) : Type 0 where
  pub none_taken : taken p (map lent cs) ≡ false → sheet_left s cs ≡ s
  pub some_taken : taken p (map lent cs) ≡ true → NoBit2 (sheet_left s cs)

pub record PartNumbersGo : Type 0 where
  -- "New sheets are written without bit 2.": by Set in order, the edits, Read a chart, joining and cutting, of which "the rule in .. (i) and (iii) that a number is kept lapses"
  pub order : (s : List ℕ) → WritesNone (ordered s)
  pub edit : (e : Edit) (s : List ℕ) → WritesNone (edited e s)
  pub read_chart_lem : (c : List ℕ) → WritesNone (chart_read c)
  pub join : (s t : List ℕ) (i : ℕ) → WritesNone (joined_sheets s t i)
  pub cut : (s t u : List ℕ) (a b : ℕ) → cut_sheet s a b ≡ write_both t u → NoBit2 t × NoBit2 u
  -- "A sheet that still has it is read and its four bytes are skipped, the result has none,"
  pub skips : (s : List ℕ) → read_sheet s ≡ read_sheet (skipped s)
  -- "and the log prints `-` always.": it begins `part - `
  pub log : (f : Facts) → take 7 (line f) ≡ 112 ∷ 97 ∷ 114 ∷ 116 ∷ 32 ∷ 45 ∷ 32 ∷ []
  -- "Two sheets that differ only there", as a sheet without bit 2 and the same sheet with bit 2 and any four bytes behind its pairs, before its angles if it has any,
  pub there : (m : ℕ) (front four back : List ℕ) → bit2 m ≡ 0 → length (m ∷ front) ≡ pairs_end (m ∷ front) → length four ≡ 4
      → OnlyThere (m ∷ (front ++ back)) ((m + 4) ∷ (front ++ (four ++ back)))
  -- "now give the same normal sheet.": and the same plan, chart and line
  pub same : (s t : List ℕ) → OnlyThere s t → SameAnswers s t
  -- "The rule .. that a number is kept lapses": after a list of edits the sheet left has no bit 2, or is the first one, bit 2 and all, if no edit was taken
  pub list : (s : List ℕ) (p : Polygon) → read_sheet s ≡ held p → (cs : List Call) → LeftBy s p cs
