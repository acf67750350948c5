-- Which runs of bytes have a chart.
use Rattle.std.specs.Prelude.{◌≡◌, List, ℕ, ◌≤◌, ◌<◌, length, get_or}
use Rattle.std.proofs.Math.Logic.Dec.{and as dec_and}
use Rattle.std.proofs.Math.Decide.{dec_le, dec_lt, ℕ_discrete}
use Rattle.lists.specs.Lists.{All, all?, recast?}
use Rattle.sheet.specs.Sheet.{count?}
use Rattle.chart.specs.Decode.{count_in, stroke_places, strokes_end}

-- "14: wrong length, n out of range, or a bit 1 to 7": a chart of n corners has 6 + 6n bytes and then 2n-3 strokes of 5 or 7 bytes each, with nothing left over.
-- (`get_or` gives 0 past the end. Strokes that run past the end do not end at it, since each takes 5 bytes or more.)
pub record Formed (s : List ℕ) : Type 0 where
  pub head : 6 ≤ length s
  pub least : 3 ≤ count_in s
  pub most : count_in s ≤ 1024
  -- "Bits 1 to 7 are clear."
  pub bits : All (λ at. get_or s at 0 < 2) (stroke_places s)
  -- the strokes end where the bytes end
  pub exact : strokes_end s ≡ length s

unfoldable pub formed? : (s : List ℕ) → Dec (Formed s)
formed? s = recast?
    (λ h. record { head = h.0; least = h.1.0.0; most = h.1.0.1; bits = h.1.1.0; exact = h.1.1.1 })
    (λ F. (F.head, ((F.least, F.most), (F.bits, F.exact))))
    (dec_and (dec_le 6 (length s)) (dec_and (count? (count_in s)) (dec_and (all? (λ at. dec_lt (get_or s at 0) 2) (stroke_places s)) (ℕ_discrete (strokes_end s) (length s)))))
