-- Request (x), for "readers of foreign charts" that "want to follow a line with a finger": the question asked of a chart's bytes and two cells.
-- 14 and 15 come first, as in "Read a chart": bars that break their rule show nothing. Then 9: a cell outside the chart, or two cells that are not of one row or column.
use Rattle.std.specs.Prelude.{◌≡◌, ◌⊎◌, Result, Ok, Err, Option, List, ℕ, suc, ◌+◌, ◌*◌, ◌<◌}
use Rattle.std.proofs.Math.Logic.Dec.{and as dec_and}
use Rattle.std.proofs.Math.Decide.{dec_lt, ℕ_discrete}
use Rattle.lists.specs.Lists.{choose, either?, three?}
use Rattle.codec.specs.declared.refusal.Refusal.{Refusal}
use Rattle.codec.specs.Numbered.{number_of}
use Rattle.codec.specs.Unpacked.{number_in, corner_in, OneNumber}
use Rattle.chart.specs.Chart.{Chart}
use Rattle.chart.specs.Decode.{chart_in}
use Rattle.nearest.specs.declared.Cell.{Cell}
use Rattle.nearest.specs.Nearest.{Found, none, bar, nearest, found_of}
use Rattle.chart_reader.specs.Formed.{formed?}
use Rattle.chart_reader.specs.Reader.{bars?}

-- the answer: the number, and what is found
pub record FollowAnswer : Type 0 where
  pub number : ℕ
  pub found : Found

-- "A refusal gives its number and zeros."
abbrev pub follow_refusal : ℕ → FollowAnswer
follow_refusal k = record { number = k; found = none }

-- a cell of the chart; two cells of a line of it
abbrev pub OnChart : Chart → Cell → Type 0
OnChart c p = (p.row < c.rows) × (p.column < c.columns)

abbrev pub InLine : Cell → Cell → Type 0
InLine p q = (p.row ≡ q.row) ⊎ (p.column ≡ q.column)

abbrev pub Asked : Chart → Cell × Cell → Type 0
Asked c e = OnChart c e.0 × OnChart c e.1 × InLine e.0 e.1

unfoldable pub on_chart? : (c : Chart) (p : Cell) → Dec (OnChart c p)
on_chart? c p = dec_and (dec_lt p.row c.rows) (dec_lt p.column c.columns)

unfoldable pub asked? : (c : Chart) (e : Cell × Cell) → Dec (Asked c e)
asked? c e = three? (on_chart? c e.0) (on_chart? c e.1) (either? (ℕ_discrete e.0.row e.1.row) (ℕ_discrete e.0.column e.1.column))

-- the tests in order
unfoldable pub nearest_bar : List ℕ → Cell × Cell → FollowAnswer
nearest_bar s e =
    let c = chart_in s in
    choose (formed? s)
    (choose (bars? c)
    (choose (asked? c e)
    (record { number = 0; found = nearest c.bar c.n e })
    (follow_refusal 9))
    (follow_refusal 15))
    (follow_refusal 14)

-- the number and the values of each case of the code's answer
abbrev pub followed_of : Result (Option ℕ) Refusal → FollowAnswer
followed_of (Ok o) = record { number = 0; found = found_of o }
followed_of (Err r) = follow_refusal (number_of r)

-- the answer in one number, for C: the number in the low 16 bits, and above it the corner and one, or 0 for none
abbrev pub value_of : Found → ℕ
value_of none = 0
value_of (bar x) = suc x

abbrev pub packed_found : FollowAnswer → ℕ
packed_found a = a.number + value_of a.found * 65536

-- the answer is read back from that number, as include/bend.h reads it
pub record FoundReadsBack (a : FollowAnswer) : Type 0 where
  pub number_back : number_in (packed_found a) ≡ a.number
  pub corner_back : corner_in (packed_found a) ≡ value_of a.found
  pub one_number : OneNumber (packed_found a)
