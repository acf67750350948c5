-- The loop's invariant: the gaps before i are written.
use Rattle.std.proofs.Common.{◌≡◌, ℕ, ◌+◌, ◌<◌, get_or}
use Rattle.nearest.proofs.Seeking.{blank}
use Rattle.chart_reader.proofs.gaps.put_empty.Given as goal

abbrev pub invariant-loop-i : goal.invariant-loop-i
invariant-loop-i l = (k : ℕ) → k < l.i → ((get_or l.gaps k blank).first ≡ (get_or l.spans k blank).last + 1) × ((get_or l.gaps k blank).last ≡ (get_or l.spans k blank).last)
