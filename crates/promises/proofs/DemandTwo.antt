-- Demand 2 is proved: the theorems of the crates sheet, chart and chart_reader on any bytes, and on the part that they hold.
use mathlib.Core.Path.{◌≡◌, refl, ap}
use mathlib.Core.List.{List}
use Prim.Native.Nat.{ℕ, ◌<◌}
use native.Mathlib.Omega.{arith}
use Rattle.lists.specs.Lists.{All}
use Rattle.polygon.specs.Polygon.{Polygon, Valid}
use Rattle.codec.proofs.Answers.{only_short}
use Rattle.sheet.specs.Sheet.{Reading, held, read_sheet, normal_sheet, outcome, ordered}
use Rattle.sheet.specs.Refusals.{sheet_tests, RefusedBy, by, holds}
use Rattle.sheet.proofs.Accepts as sheets
use Rattle.sheet.proofs.Refusals.{read_refuses}
use Rattle.sheet.proofs.Valid.{read_valid}
use Rattle.plan.specs.Answer.{answer, planned}
use Rattle.chart.specs.Chart.{chart_of}
use Rattle.chart.specs.Bytes.{bytes_of}
use Rattle.chart.proofs.Theorems.{chart_is_true, chart_shows, chart_rows_most, chart_no_empty_row}
use Rattle.chart_reader.specs.Reader.{chart_read}
use Rattle.chart_reader.proofs.Theorems.{accepts, writes, reads_back}
use Rattle.draw.specs.Answer.{charted, drawn, charted_both, drawn_with_bars}
use Rattle.draw.proofs.Refusals.{only_short_bars}
use Rattle.promises.specs.DemandTwo.{ListsValid, Refused, WhichSheets, OnlyRoom, OurChart, AnyChart, DemandTwo}

which_sheets : (s : List ℕ) → WhichSheets s
which_sheets s = record {
  accepted = (λ a. listed a.0 a.1, λ l. (l.0, (sheets.accepts s l.0).1 (l.1, l.2)));
  part = λ p. sheets.accepts s p;
  refused_else = (else (read_sheet s) refl (read_refuses s), λ r l. let z : ◌≡◌ {A = ℕ} 0 1 = cc (r.2, (sheets.accepts s l.0).1 (l.1, l.2)) in omega arith);
}
  where
    listed : (p : Polygon) → read_sheet s ≡ held p → ListsValid s
    listed p e = let a = (sheets.accepts s p).0 e in (p, a.0, a.1)

    else : (r : Reading) → read_sheet s ≡ r → RefusedBy sheet_tests r → ¬ ListsValid s → Refused s
    else r e (by {k} m) f = (k, m, e)
    else r e (holds {p}) f = absurd (f (listed p e))

pub only_room : (s : List ℕ) (p : Polygon) → Valid p → read_sheet s ≡ held p → OnlyRoom s p
unfolding ordered outcome drawn charted drawn_with_bars charted_both planned answer
only_room s p v reads = record {
  order = λ out. rw reads (only_short (normal_sheet p) out);
  draw = λ out. rw reads (only_short (bytes_of (chart_of p)) out);
  draw_bars = λ out bars. rw reads (only_short_bars (chart_of p) p.n (chart_shows p v).corners out bars);
  plan = rw reads;
}

pub our_chart : (s : List ℕ) (p : Polygon) → Valid p → read_sheet s ≡ held p → OurChart s p
unfolding ordered drawn charted chart_read outcome
our_chart s p v reads = record {
  sheet = ap outcome reads;
  drawing = ap charted reads;
  true = chart_is_true p v;
  shows = chart_shows p v;
  rows = chart_rows_most p v;
  no_empty_row = chart_no_empty_row p v;
  back = ap outcome (reads_back p v);
}

any_chart : (c : List ℕ) → All (λ b. b < 256) c → AnyChart c
any_chart c bytes = record {
  accepted = λ p. accepts c p bytes;
  sheet = λ p C. writes c p C;
  only_8 = λ p C out. rw (writes c p C) (only_short (normal_sheet p) out);
}

pub demand_two : (bs : List ℕ) → All (λ b. b < 256) bs → DemandTwo bs
demand_two bs bytes = record {
  which_sheets = which_sheets bs;
  only_room = λ p reads. only_room bs p (read_valid bs p reads) reads;
  our_chart = λ p reads. our_chart bs p (read_valid bs p reads) reads;
  any_chart = any_chart bs bytes;
}
