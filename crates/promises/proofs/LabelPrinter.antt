-- Request (ii) is proved, from the theorems of the crates umbrella and draw.
use mathlib.Core.Path.{◌≡◌, ap, ◌∙◌}
use mathlib.Core.List.{List}
use Prim.Native.Nat.{ℕ, ◌≤◌, ◌<◌}
use native.Mathlib.Omega.{arith}
use Rattle.polygon.specs.Polygon.{Polygon}
use Rattle.codec.specs.Answer.{Outcome, write, written}
use Rattle.sheet.specs.Sheet.{refused, held, read_sheet, normal_sheet}
use Rattle.sheet.proofs.Back.{read_back}
use Rattle.sheet.proofs.Valid.{read_valid}
use Rattle.umbrella.specs.Tight.{tight_part}
use Rattle.umbrella.proofs.Theorems.{part_corners, tight_part_lem}
use Rattle.plan.specs.Answer.{answer, planned}
use Rattle.chart.specs.Chart.{chart_of}
use Rattle.chart.specs.Bytes.{bytes_of}
use Rattle.draw.specs.Answer.{charted, drawn}
use Rattle.draw.proofs.Theorems.{label_sheet_refused, label_as_tape, label_refuses, label_nineteen, label_nineteen_bars, label_else, tape_never, tape_never_bars, rows_below, tight_rows}
use Rattle.promises.specs.LabelPrinter.{AsTape, LabelRefuses, Tightest, LabelPrinter}

as_tape : (s : List ℕ) (p : Polygon) → read_sheet s ≡ held p → (chart_of p).rows ≤ 15 → AsTape s
as_tape s p e h = let (a, b) = label_as_tape s p e h in record { bytes = a; bars = b }

refused_tall : (s : List ℕ) (p : Polygon) → read_sheet s ≡ held p → 15 < (chart_of p).rows → LabelRefuses s 19
refused_tall s p e h = let (a, b) = label_refuses s p e h in record { bytes = a; bars = b }

refused_sheet : (s : List ℕ) (k : ℕ) → read_sheet s ≡ refused k → LabelRefuses s k
refused_sheet s k e = let (a, b) = label_sheet_refused s k e in record { bytes = a; bars = b }

on_tape : (s : List ℕ) (p : Polygon) → read_sheet s ≡ held p → drawn s ≡ write (bytes_of (chart_of p))
unfolding drawn charted
on_tape s p e = rw e

tightest : (D : ℕ) → 1 ≤ D → D ≤ 9 → Tightest D
unfolding planned answer
tightest D h k =
    let (v, size, deep, flat) = tight_part_lem D h k in
    let s = normal_sheet (tight_part D) in
    let e = read_back (tight_part D) v in
    let tall = tight_rows D h k in
    record {
      valid = v;
      corners = size;
      sheet = e;
      plan = (rw e, rw e deep);
      rows = tall;
      taken = (label_as_tape s (tight_part D) e (omega (arith, tall, k))).0 ∙ on_tape s (tight_part D) e;
    }

pub label_printer : LabelPrinter
label_printer = record {
  fifteen = as_tape;
  same_bytes = λ s out f. ap (λ (o : Outcome). written o out) (label_else s (λ t. f ((label_nineteen s out).1 t))).0;
  same_bars = λ s out bars f. (label_else s (λ t. f ((label_nineteen_bars s out bars).1 t))).1 out bars;
  tape = on_tape;
  fewest = part_corners;
  reached = tightest;
  small = λ s p e h. as_tape s p e (omega (arith, rows_below p (read_valid s p e) 8 (omega (arith, h))));
  tall = refused_tall;
  then_only = label_nineteen;
  then_only_bars = label_nineteen_bars;
  after = refused_sheet;
  never = tape_never;
  never_bars = tape_never_bars;
}
