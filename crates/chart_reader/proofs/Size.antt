-- No sheet that is written is longer than the longest sheet.
use mathlib.Core.List.{List}
use Prim.Native.Nat.{ℕ, ◌≤◌}
use Rattle.codec.specs.Answer.{written}
use Rattle.sheet.specs.Sheet.{Reading, longest}
use Rattle.sheet.proofs.Size.{ValidPart, outcome_size}
use Rattle.chart_reader.specs.Reader.{chart_read}
use Rattle.chart_reader.proofs.Verdict.{Verdict, taken, by_14, by_15, by_16, by_17, by_18, verdict}
use Rattle.chart_reader.proofs.Shown.{rule_valid}
use Rattle.chart_reader.proofs.Accepts.{strokes_count}
use Rattle.chart.specs.Decode.{chart_in}

part_valid : (s : List ℕ) {r : Reading} → Verdict s r → ValidPart r
part_valid s (by_14 a) = tt
part_valid s (by_15 a b) = tt
part_valid s (by_16 a b c) = tt
part_valid s (by_17 a b c d) = tt
part_valid s (by_18 a b c d e) = tt
part_valid s (taken F B S G P) = rule_valid (chart_in s) F.least S.0 S.1 P F.most (strokes_count s F.least)

pub chart_read_size : (s out : List ℕ) → (written (chart_read s) out).size ≤ longest
unfolding chart_read
chart_read_size s out = outcome_size _ out (part_valid s (verdict s))
