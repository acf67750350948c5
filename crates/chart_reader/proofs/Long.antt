-- No chart is longer than 20,465 bytes, so an input that is longer is refused by 14, as its first 20,466 bytes are.
-- Rests on the bytes of a stroke, 7 at most.
use mathlib.Core.Path.{◌≡◌, sym, ◌∙◌}
use mathlib.Core.List.{List}
use Prim.Native.Nat.{ℕ, zero, suc, ◌+◌, ◌*◌, ◌-◌, ◌≤◌}
use native.Mathlib.Omega.{arith}
use lib.ListN.{length, take, get_or}
use lib.Seq.{length-take-le}
use Rattle.sheet.specs.Sheet.{refused}
use Rattle.chart.specs.Decode.{count_in, stroke_size, behind}
use Rattle.chart_reader.specs.Formed.{Formed}
use Rattle.chart_reader.specs.Reader.{read_chart}
use Rattle.chart_reader.proofs.Verdict.{by_14, read_by}

behind_most : (s : List ℕ) (at k : ℕ) → behind s at k ≤ at + 7 * k
unfolding behind
behind_most s at zero = omega arith
behind_most s at (suc k) = omega (arith, behind_most s (at + stroke_size (get_or s at 0)) k)

pub chart_size : (s : List ℕ) → Formed s → length s ≤ 20465
chart_size s F = omega (arith, F.exact, F.most, F.least, behind_most s (6 + 6 * count_in s) (2 * count_in s - 3))

pub refused_long : (s : List ℕ) → 20466 ≤ length s → read_chart s ≡ refused 14
refused_long s h = read_by s (by_14 (λ F. omega (arith, chart_size s F)))

pub long_input : (s : List ℕ) → 20466 ≤ length s → read_chart (take 20466 s) ≡ read_chart s
long_input s h = refused_long (take 20466 s) (omega (arith, length-take-le 20466 s h)) ∙ sym (refused_long s h)
