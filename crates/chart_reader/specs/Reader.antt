-- Document 01, "Read a chart (normal sheet without part number). 14: wrong length, n out of range, or a bit 1 to 7. 15: a bar breaks its rule. 16: a stroke's corners or order wrong, or its bars don't fit.
-- 17: an upright in a level gap. 18: not all sides, or diagonals cross. 8." Each test is of the whole chart before the next.
use Rattle.std.proofs.Math.Logic.Dec.{and as dec_and}
use Rattle.std.specs.Prelude.{List, [], ◌∷◌, ℕ}
use Rattle.std.proofs.Math.Decide.{dec_le, dec_lt, ℕ_discrete}
use Rattle.lists.specs.Lists.{all?, below, mem?, not?, sorted?, three?}
use Rattle.polygon.specs.Order.{before?, same?, none_cross?}
use Rattle.codec.specs.Answer.{Outcome}
use Rattle.sheet.specs.Sheet.{Reading, held, ask, outcome}
use Rattle.chart.specs.Chart.{Stroke, upright, level, stroke_edge, Chart}
use Rattle.chart.specs.Decode.{chart_in}
use Rattle.nearest.specs.declared.Cell.{Cell}
use Rattle.nearest.specs.BarRule.{BarRule}
use Rattle.nearest.specs.Areas.{shares?}
use Rattle.nearest.proofs.Areas.{stands?, crosses?}
use Rattle.chart_reader.specs.Formed.{formed?}
use Rattle.chart_reader.specs.Rules.{part_sides, Joins, ends, Free, StrokeRule, Passes, GapRule, edges_in, diagonals_in, PartRule, part_in}

-- the decisions; what each decides is its type
module _ (c : Chart) where
  unfoldable pub bars? : Dec (BarRule c)
  bars? = dec_and (all? (λ x. three? (dec_le (c.bar x).left (c.bar x).right) (dec_lt (c.bar x).right c.columns) (dec_lt (c.bar x).row c.rows)) (below c.n))
      (sorted? (λ x y. not? (shares? (c.bar x) (c.bar y))) (below c.n))

  unfoldable pub free? : (e : Cell × Cell) → Dec (Free c e)
  free? e = all? (λ z. not? (stands? e (c.bar z))) (below c.n)

  unfoldable pub joins? : (s : Stroke) → Dec (Joins c s)
  joins? (level e) = ℕ_discrete (c.bar e.0).row (c.bar e.1).row
  joins? (upright e j) = three? (dec_and (dec_le (c.bar e.0).left j) (dec_le j (c.bar e.0).right)) (dec_and (dec_le (c.bar e.1).left j) (dec_le j (c.bar e.1).right))
      (not? (ℕ_discrete (c.bar e.0).row (c.bar e.1).row))

  unfoldable pub strokes? : Dec (StrokeRule c)
  strokes? = three? (all? (λ s. dec_and (dec_lt (stroke_edge s).0 (stroke_edge s).1) (dec_lt (stroke_edge s).1 c.n)) c.strokes)
      (sorted? before? (edges_in c))
      (all? (λ s. dec_and (joins? s) (free? (ends c s))) c.strokes)

  unfoldable pub passes? : (s t : Stroke) → Dec (Passes c s t)
  passes? (upright e j) (level f) = crosses? (ends c (upright e j)) (ends c (level f))
  passes? (upright e j) (upright f k) = no (λ x. x)
  passes? (level e) t = no (λ x. x)

  unfoldable pub gaps? : Dec (GapRule c)
  gaps? = all? (λ s. all? (λ t. not? (passes? s t)) c.strokes) c.strokes

  unfoldable pub part? : Dec (PartRule c)
  part? = dec_and (all? (λ e. mem? same? e (edges_in c)) (part_sides c.n)) (none_cross? (diagonals_in c))

-- the numbers of the tests
abbrev pub chart_tests : List ℕ
chart_tests = 14 ∷ 15 ∷ 16 ∷ 17 ∷ 18 ∷ []

-- the tests in order
unfoldable pub read_chart : List ℕ → Reading
read_chart s =
    let c = chart_in s in
    ask 14 (formed? s)
    (ask 15 (bars? c)
    (ask 16 (strokes? c)
    (ask 17 (gaps? c)
    (ask 18 (part? c)
    (held (part_in c))))))

-- Read a chart
unfoldable pub chart_read : List ℕ → Outcome
chart_read s = outcome (read_chart s)
