-- The loop's invariant: the bars of the corners before x are begun.
use Rattle.std.proofs.Common.{◌≡◌, ℕ, ◌<◌, length, get_or, drop}
use Rattle.chart_writer.specs.Tables.{FirstHold, rows_of, lefts_of, rights_of}
use Rattle.chart_writer.proofs.bars.begin_bars.Given as goal

abbrev pub invariant-loop-x : goal.invariant-loop-x
invariant-loop-x l =
    ((y : ℕ) → y < l.x → get_or (rows_of l.bars) y 0 ≡ get_or l.rows y 0) × FirstHold l.x l.w (lefts_of l.bars) × FirstHold l.x 0 (rights_of l.bars)
    × (drop (length l.rows) l.bars ≡ drop (length l.rows) l.initial.bars)
