-- What stops a chart, by the code's limit of rows and the room for its bars; and what the code answers of it: how many rows and columns it has, besides what is written of it. For the contracts.
use Rattle.std.specs.Prelude.{◌≡◌, List, ℕ, Option as Given, Some, None}
use Rattle.std.proofs.Math.Option.{Option, none, some}
use Rattle.std.proofs.Math.Decide.{dec_le}
use Rattle.lists.specs.Lists.{choose}
use Rattle.codec.specs.Answer.{Outcome, refuse, write, answered, written}
use Rattle.chart.specs.Chart.{Chart}
use Rattle.chart.specs.Bytes.{bytes_of}
use Rattle.draw.specs.declared.Charted.{Charted}
use Rattle.codec.specs.declared.refusal.Refusal.{Refusal}
use Rattle.codec.specs.declared.refusal.Refusal.TheVariants.{Room, Rows}
use Rattle.codec.specs.Numbered.{number_of}
use Rattle.draw.specs.Label.{keeps?}

-- the limit that the code's value stands for
abbrev pub limit_of : Given ℕ → Option ℕ
limit_of None = none
limit_of (Some most) = some most

-- what refuses a chart of so many rows and n bars before its bytes are written: by 19 the limit, and then by 8 the room for its bars' records
unfoldable pub stopped : Option ℕ → ℕ → ℕ → ℕ → Given Refusal
stopped limit rows n room = choose (keeps? limit rows) (choose (dec_le n room) None (Some Room)) (Some Rows)

-- what is to be written then
unfoldable pub unless : Given Refusal → List ℕ → Outcome
unless None bs = write bs
unless (Some why) bs = refuse (number_of why)

unfoldable pub unless_stopped : Option ℕ → ℕ → Chart → Outcome
unless_stopped limit room c = unless (stopped limit c.rows c.n room) (bytes_of c)

pub record Wrote (limit : Option ℕ) (room : ℕ) (c : Chart) (out after : List ℕ) (r : Charted) : Type 0 where
  pub answer : answered r.written after ≡ written (unless_stopped limit room c) out
  pub rows_are : r.size.rows ≡ c.rows
  pub columns_are : r.size.columns ≡ c.columns
