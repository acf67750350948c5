-- What a known case is: what an operation, a plan or a chart is asked, and what it says. The cases are listed in Known.antt.
use Rattle.std.specs.Prelude.{◌≡◌, List, [], ℕ, length, get_or}
use Rattle.std.proofs.Math.Option.{Option}
use Rattle.polygon.specs.Angles.{none as bare}
use Rattle.polygon.specs.Polygon.{Polygon}
use Rattle.polygon.specs.Tree.{piece}
use Rattle.codec.specs.Answer.{Outcome, write, Answer, written}
use Rattle.codec.specs.TwoOutputs.{BothOutcome, BothAnswer, written_both}
use Rattle.sheet.specs.Sheet.{Reading, refused, held, read_sheet, normal_sheet, ordered}
use Rattle.edit.specs.Rules.{Edit, flip}
use Rattle.edit.specs.Calls.{edited}
use Rattle.edit.specs.Model.{number_given}
use Rattle.seam.specs.Join.{join_rule, joined_sheets}
use Rattle.cut.specs.Cut.{cut_sheet}
use Rattle.umbrella.specs.Values.{values}
use Rattle.umbrella.specs.Tight.{tight_part}
use Rattle.plan.specs.Answer.{planned}
use Rattle.chart.specs.Chart.{Bar, bars_of, chart_of}
use Rattle.nearest.specs.declared.Cell.{Cell}
use Rattle.nearest.specs.Nearest.{Found, nearest}
use Rattle.chart_reader.specs.Reader.{chart_read}
use Rattle.chart_reader.specs.Follow.{FollowAnswer, nearest_bar}
use Rattle.draw.specs.Answer.{drawn}
use Rattle.draw.specs.Label.{charted_within}
use Rattle.draw.specs.Printed.{printed}

-- the bars, the rows and the columns of what a sheet holds
unfoldable pub bars_in : Reading → List Bar
bars_in (refused k) = []
bars_in (held p) = bars_of (chart_of p)

unfoldable pub rows_in : Reading → ℕ
rows_in (refused k) = 0
rows_in (held p) = (chart_of p).rows

unfoldable pub columns_in : Reading → ℕ
columns_in (refused k) = 0
columns_in (held p) = (chart_of p).columns

-- the six values of its edge (a,b), in the order of document 004, chapter 6
unfoldable pub values_in : Reading → ℕ → ℕ → List ℕ
values_in (refused k) a b = []
values_in (held p) a b = values (piece p.ds a b)

abbrev pub bar : ℕ → ℕ → ℕ → Bar
bar r l s = record { row = r; left = l; right = s }

-- a part of which only the corners are asked for
abbrev pub corners : ℕ → Polygon
corners n = record { n = n; ds = []; angles = bare }

-- a case: a sheet refused by a number; one with these levels, umbrellas and stems; with these chart bytes; with these bars; with so many rows; with so many columns; a sheet whose diagonal is turned; one that is edited; one with this line;
-- a sheet and an output, and the answer of setting in order; a sheet with these six values at the edge (a,b); a chart that is read as a sheet;
-- bars, two cells, and what is found between them; the same for a chart's bytes;
-- a limit of rows, a sheet and an output, and the answer of drawing; the sheet of the part of so many levels that has the fewest corners;
-- two sheets and a side, and what joining is to do; how many corners two parts have, a side, and the number that the rule of joining gives;
-- a sheet and two numbers, and what cutting is to do; the same with two outputs, and the answer
pub data Case : Type 0 where
  refused_by : List ℕ → ℕ → Case
  counted : List ℕ → ℕ → ℕ → ℕ → Case
  charted : List ℕ → List ℕ → Case
  barred : List ℕ → List Bar → Case
  tall : List ℕ → ℕ → Case
  wide : List ℕ → ℕ → Case
  turned : List ℕ → ℕ → ℕ → List ℕ → Case
  changed : List ℕ → Edit → List ℕ → Case
  lined : List ℕ → List ℕ → Case
  in_order : List ℕ → List ℕ → Answer → Case
  valued : List ℕ → ℕ → ℕ → List ℕ → Case
  read_as : List ℕ → List ℕ → Case
  found : List Bar → Cell × Cell → Found → Case
  followed : List ℕ → Cell × Cell → FollowAnswer → Case
  limited : Option ℕ → List ℕ → List ℕ → Answer → Case
  tightest : ℕ → List ℕ → Case
  joined : List ℕ → List ℕ → ℕ → Outcome → Case
  joined_of : ℕ → ℕ → ℕ → ℕ → Case
  halved_at : List ℕ → ℕ → ℕ → BothOutcome ℕ → Case
  halved_into : List ℕ → ℕ → ℕ → List ℕ → List ℕ → BothAnswer ℕ → Case

abbrev pub Holds : Case → Type 0
Holds (refused_by s k) = read_sheet s ≡ refused k
Holds (counted s l u t) = planned s ≡ record { number = 0; levels = l; umbrellas = u; stems = t }
Holds (charted s bs) = drawn s ≡ write bs
Holds (barred s bs) = bars_in (read_sheet s) ≡ bs
Holds (tall s k) = rows_in (read_sheet s) ≡ k
Holds (wide s k) = columns_in (read_sheet s) ≡ k
Holds (turned s a b t) = edited (flip a b) s ≡ write t
Holds (changed s e t) = edited e s ≡ write t
Holds (lined s bs) = printed s ≡ bs
Holds (in_order s out a) = written (ordered s) out ≡ a
Holds (valued s a b xs) = values_in (read_sheet s) a b ≡ xs
Holds (read_as c s) = chart_read c ≡ write s
Holds (found bs e f) = nearest (λ x. get_or bs x (bar 0 0 0)) (length bs) e ≡ f
Holds (followed c e a) = nearest_bar c e ≡ a
Holds (limited l s out a) = written (charted_within l (read_sheet s)) out ≡ a
Holds (tightest D s) = normal_sheet (tight_part D) ≡ s
Holds (joined s t i o) = joined_sheets s t i ≡ o
Holds (joined_of n m i k) = number_given (join_rule i (corners n) (corners m)) ≡ k
Holds (halved_at s a b o) = cut_sheet s a b ≡ o
Holds (halved_into s a b out ys d) = written_both (cut_sheet s a b) out ys ≡ d
