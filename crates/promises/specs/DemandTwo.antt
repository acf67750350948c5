-- Demand 2: which sheets are accepted, and what can then still stop an operation; the chart drawn of a part is a true drawing of it without an empty row and reads back as that part, without angles; and a chart handed in, ours or
-- another's, is accepted exactly if it is a true drawing of a part. One claim about any bytes, read as a sheet or as a chart.
-- `Lists s p`: the sheet s lists the part p in the published form, in any order, either corner first, each diagonal with its angle if p has angles (crate sheet, specs/Listing.antt). `True` and `Shows` are document 01's sentences (crate chart,
-- specs/Chart.antt). `Charts c p`: the bytes c are those of a true chart that shows the part p (crate chart_reader, specs/Charts.antt).
use Rattle.std.specs.Prelude.{◌≡◌, ◌⊎◌, ◌↔◌, List, ℕ, ◌+◌, ◌*◌, ◌≤◌, ◌<◌, length}
use Rattle.lists.specs.Lists.{Mem}
use Rattle.polygon.specs.Polygon.{Polygon, bare, Valid}
use Rattle.codec.specs.Answer.{write, written, OnlyShort}
use Rattle.sheet.specs.Sheet.{refused, held, read_sheet, normal_sheet, ordered}
use Rattle.sheet.specs.Listing.{Lists}
use Rattle.sheet.specs.Refusals.{sheet_tests}
use Rattle.umbrella.specs.Plan.{levels}
use Rattle.umbrella.specs.Best.{plan_of}
use Rattle.plan.specs.Answer.{planned, counts_of}
use Rattle.chart.specs.Chart.{Bar, NoEmptyRow, chart_of, True, Shows}
use Rattle.chart.specs.Bytes.{bytes_of}
use Rattle.chart_reader.specs.Reader.{read_chart, chart_read}
use Rattle.chart_reader.specs.Charts.{Charts}
use Rattle.draw.specs.Answer.{drawn, drawn_with_bars}

-- the sheet lists a valid part; the sheet is accepted, that is some part is held; it is refused by one of the tests 1 to 7 and 23
abbrev pub ListsValid : List ℕ → Type 0
ListsValid s = (p : Polygon) × Valid p × Lists s p

abbrev pub Accepted : List ℕ → Type 0
Accepted s = (p : Polygon) × (read_sheet s ≡ held p)

abbrev pub Refused : List ℕ → Type 0
Refused s = (k : ℕ) × Mem k sheet_tests × (read_sheet s ≡ refused k)

-- A sheet is accepted exactly if it lists a valid part in the published form, and it then holds that part; else it is refused.
pub record WhichSheets (s : List ℕ) : Type 0 where
  pub accepted : Accepted s ↔ ListsValid s
  pub part : (p : Polygon) → (read_sheet s ≡ held p) ↔ (Valid p × Lists s p)
  pub refused_else : (¬ ListsValid s) ↔ Refused s

-- On a sheet that holds the part p only a short output can still stop Set in order and Draw, and nothing stops Plan.
pub record OnlyRoom (s : List ℕ) (p : Polygon) : Type 0 where
  pub order : (out : List ℕ) → OnlyShort (length out < length (normal_sheet p)) (written (ordered s) out).number
  pub draw : (out : List ℕ) → OnlyShort (length out < length (bytes_of (chart_of p))) (written (drawn s) out).number
  pub draw_bars : (out : List ℕ) (bars : List Bar) → OnlyShort ((length out < length (bytes_of (chart_of p))) ⊎ (length bars < p.n)) (drawn_with_bars s out bars).answer.number
  pub plan : planned s ≡ counts_of (plan_of p)

-- our own chart, for a sheet s that holds the part p
pub record OurChart (s : List ℕ) (p : Polygon) : Type 0 where
  pub sheet : ordered s ≡ write (normal_sheet p)
  pub drawing : drawn s ≡ write (bytes_of (chart_of p))
  pub true : True (chart_of p)
  pub shows : Shows (chart_of p) p
  -- "The two rows a level and one more .. become a ceiling, .., and a drawn chart never has an empty row." (request (v))
  pub rows : (chart_of p).rows ≤ 2 * levels (plan_of p) + 1
  pub no_empty_row : NoEmptyRow (chart_of p)
  -- "The chart doesn't depend on angles" (request (xi)): it reads back as the part without them
  pub back : chart_read (bytes_of (chart_of p)) ≡ write (normal_sheet (bare p))

-- any chart: the bytes c handed in
pub record AnyChart (c : List ℕ) : Type 0 where
  pub accepted : (p : Polygon) → (read_chart c ≡ held p) ↔ Charts c p
  pub sheet : (p : Polygon) → Charts c p → chart_read c ≡ write (normal_sheet p)
  -- only a short output can still stop it
  pub only_8 : (p : Polygon) → Charts c p → (out : List ℕ) → OnlyShort (length out < length (normal_sheet p)) (written (chart_read c) out).number

-- For any bytes bs:
pub record DemandTwo (bs : List ℕ) : Type 0 where
  -- as a sheet they are accepted exactly if they list a valid part in the published form, in any order, either corner first;
  pub which_sheets : WhichSheets bs
  -- if they are, only a short output can still stop the operation on the sheet or the chart;
  pub only_room : (p : Polygon) → read_sheet bs ≡ held p → OnlyRoom bs p
  -- the chart drawn is a true drawing of the part, without an empty row, and reads back as that part, without angles;
  pub our_chart : (p : Polygon) → read_sheet bs ≡ held p → OurChart bs p
  -- as a chart they are accepted exactly if they are a true drawing of a part, and read as that part.
  pub any_chart : AnyChart bs
