-- What reading a chart gives, by the first rule that is broken.
use mathlib.Core.Path.{◌≡◌, subst}
use mathlib.Core.List.{List}
use Prim.Native.Nat.{ℕ}
use Rattle.sheet.specs.Sheet.{Reading, refused, held, ask}
use Rattle.sheet.proofs.Asks.{ask_yes, ask_no, past}
use Rattle.chart.specs.Decode.{chart_in}
use Rattle.nearest.specs.BarRule.{BarRule}
use Rattle.chart_reader.specs.Formed.{Formed, formed?}
use Rattle.chart_reader.specs.Rules.{StrokeRule, GapRule, PartRule, part_in}
use Rattle.chart_reader.specs.Reader.{bars?, strokes?, gaps?, part?, read_chart}

-- a chart is refused by the number of the first rule that it breaks, or its part is held
pub data Verdict (s : List ℕ) : Reading → Type 0 where
  by_14 : ¬ Formed s → Verdict s (refused 14)
  by_15 : Formed s → ¬ BarRule (chart_in s) → Verdict s (refused 15)
  by_16 : Formed s → BarRule (chart_in s) → ¬ StrokeRule (chart_in s) → Verdict s (refused 16)
  by_17 : Formed s → BarRule (chart_in s) → StrokeRule (chart_in s) → ¬ GapRule (chart_in s) → Verdict s (refused 17)
  by_18 : Formed s → BarRule (chart_in s) → StrokeRule (chart_in s) → GapRule (chart_in s) → ¬ PartRule (chart_in s) → Verdict s (refused 18)
  taken : Formed s → BarRule (chart_in s) → StrokeRule (chart_in s) → GapRule (chart_in s) → PartRule (chart_in s) → Verdict s (held (part_in (chart_in s)))

module _ (s : List ℕ) where
  pub verdict : Verdict s (read_chart s)
  unfolding read_chart ask
  verdict = go (formed? s) (bars? (chart_in s)) (strokes? (chart_in s)) (gaps? (chart_in s)) (part? (chart_in s))
    where
      go : (d : Dec (Formed s)) (e : Dec (BarRule (chart_in s))) (f : Dec (StrokeRule (chart_in s))) (g : Dec (GapRule (chart_in s))) (h : Dec (PartRule (chart_in s)))
          → Verdict s (ask 14 d (ask 15 e (ask 16 f (ask 17 g (ask 18 h (held (part_in (chart_in s))))))))
      go (no d) e f g h = by_14 d
      go (yes d) (no e) f g h = by_15 d e
      go (yes d) (yes e) (no f) g h = by_16 d e f
      go (yes d) (yes e) (yes f) (no g) h = by_17 d e f g
      go (yes d) (yes e) (yes f) (yes g) (no h) = by_18 d e f g h
      go (yes d) (yes e) (yes f) (yes g) (yes h) = taken d e f g h

  pub read_by : {r : Reading} → Verdict s r → read_chart s ≡ r
  unfolding read_chart
  read_by (by_14 d) = ask_no 14 _ _ d
  read_by (by_15 d e) = past 14 _ _ d (ask_no 15 _ _ e)
  read_by (by_16 d e f) = past 14 _ _ d (past 15 _ _ e (ask_no 16 _ _ f))
  read_by (by_17 d e f g) = past 14 _ _ d (past 15 _ _ e (past 16 _ _ f (ask_no 17 _ _ g)))
  read_by (by_18 d e f g h) = past 14 _ _ d (past 15 _ _ e (past 16 _ _ f (past 17 _ _ g (ask_no 18 _ _ h))))
  read_by (taken d e f g h) = past 14 _ _ d (past 15 _ _ e (past 16 _ _ f (past 17 _ _ g (ask_yes 18 _ _ h))))

  pub by_reading : {r : Reading} → read_chart s ≡ r → Verdict s r
  by_reading e = subst (Verdict s) e verdict
