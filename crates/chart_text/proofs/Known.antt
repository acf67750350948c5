-- Known texts, by computation: those of the charts of the triangle and of n = 4, (0,2), by document 01's places, handed in with their empty row.
use mathlib.Core.Path.{◌≡◌, refl}
use mathlib.Core.Logic.Dec
use mathlib.Core.List.{List, [], ◌∷◌, flat_map}
use Prim.Native.Nat.{ℕ}
use native.Mathlib.Decide.{dec_le, dec_lt, ℕ_discrete}
use Rattle.lists.specs.Lists.{all?, below, choose, either?, keep, mem?, not?, numbers, put, sorted?, recast?, three?}
use Rattle.polygon.specs.Order.{before?, same?, cross?, none_cross?, diagonal?}
use Rattle.polygon.specs.Tree.{tree_of, grow, far, farther, near?}
use Rattle.umbrella.specs.Plan.{fold}
use Rattle.umbrella.specs.Values.{ud}
use Rattle.umbrella.specs.Best.{best, umbrella, left_at, right_at, stem_at, over_node}
use Rattle.sheet.specs.Sheet.{ask, count?}
use Rattle.chart.specs.Chart.{stroke_edge, bars_of}
use Rattle.chart.specs.Bytes.{bar_bytes, stroke_bytes, bytes_of}
use Rattle.chart.specs.Decode.{shaped, places, behind}
use Rattle.log_line.specs.Line.{digits, decimal, line}
use Rattle.nearest.specs.Areas.{common?, common_of, between, shares?}
use Rattle.nearest.proofs.Areas.{stands?, crosses?}
use Rattle.chart_reader.specs.Formed.{formed?}
use Rattle.chart_reader.specs.Rules.{part_sides}
use Rattle.chart_reader.specs.Reader.{bars?, free?, joins?, strokes?, passes?, gaps?, part?, read_chart}
use Rattle.chart_reader.proofs.Known.{triangle, drawn, square_bars, square_strokes}
use Rattle.chart_text.specs.Text.{corner_line, corner_lines, stroke_name, edge_name, stroke_line, insert_stroke, left_to_right, stroke_lines, described_as, described}

abbrev pub triangle_text : List ℕ
triangle_text =
    -- part - corners 3 levels 1 umbrellas 1 stems 0 rows 3 columns 2
    112 ∷ 97 ∷ 114 ∷ 116 ∷ 32 ∷ 45 ∷ 32 ∷ 99 ∷ 111 ∷ 114 ∷ 110 ∷ 101 ∷ 114 ∷ 115 ∷ 32 ∷ 51 ∷ 32 ∷ 108 ∷ 101 ∷ 118 ∷ 101 ∷ 108 ∷ 115 ∷ 32 ∷ 49 ∷ 32 ∷
    117 ∷ 109 ∷ 98 ∷ 114 ∷ 101 ∷ 108 ∷ 108 ∷ 97 ∷ 115 ∷ 32 ∷ 49 ∷ 32 ∷ 115 ∷ 116 ∷ 101 ∷ 109 ∷ 115 ∷ 32 ∷ 48 ∷ 32 ∷ 114 ∷ 111 ∷ 119 ∷ 115 ∷ 32 ∷ 51 ∷ 32 ∷
    99 ∷ 111 ∷ 108 ∷ 117 ∷ 109 ∷ 110 ∷ 115 ∷ 32 ∷ 50 ∷ 10 ∷
    -- corner 0 row 0 columns 0 to 0
    99 ∷ 111 ∷ 114 ∷ 110 ∷ 101 ∷ 114 ∷ 32 ∷ 48 ∷ 32 ∷ 114 ∷ 111 ∷ 119 ∷ 32 ∷ 48 ∷ 32 ∷ 99 ∷ 111 ∷ 108 ∷ 117 ∷ 109 ∷ 110 ∷ 115 ∷ 32 ∷ 48 ∷ 32 ∷ 116 ∷ 111 ∷ 32 ∷ 48 ∷ 10 ∷
    -- corner 1 row 2 columns 0 to 1
    99 ∷ 111 ∷ 114 ∷ 110 ∷ 101 ∷ 114 ∷ 32 ∷ 49 ∷ 32 ∷ 114 ∷ 111 ∷ 119 ∷ 32 ∷ 50 ∷ 32 ∷ 99 ∷ 111 ∷ 108 ∷ 117 ∷ 109 ∷ 110 ∷ 115 ∷ 32 ∷ 48 ∷ 32 ∷ 116 ∷ 111 ∷ 32 ∷ 49 ∷ 10 ∷
    -- corner 2 row 0 columns 1 to 1
    99 ∷ 111 ∷ 114 ∷ 110 ∷ 101 ∷ 114 ∷ 32 ∷ 50 ∷ 32 ∷ 114 ∷ 111 ∷ 119 ∷ 32 ∷ 48 ∷ 32 ∷ 99 ∷ 111 ∷ 108 ∷ 117 ∷ 109 ∷ 110 ∷ 115 ∷ 32 ∷ 49 ∷ 32 ∷ 116 ∷ 111 ∷ 32 ∷ 49 ∷ 10 ∷
    -- line 0 corners 0 1 side
    108 ∷ 105 ∷ 110 ∷ 101 ∷ 32 ∷ 48 ∷ 32 ∷ 99 ∷ 111 ∷ 114 ∷ 110 ∷ 101 ∷ 114 ∷ 115 ∷ 32 ∷ 48 ∷ 32 ∷ 49 ∷ 32 ∷ 115 ∷ 105 ∷ 100 ∷ 101 ∷ 10 ∷
    -- level 0 to 1 corners 0 2 side
    108 ∷ 101 ∷ 118 ∷ 101 ∷ 108 ∷ 32 ∷ 48 ∷ 32 ∷ 116 ∷ 111 ∷ 32 ∷ 49 ∷ 32 ∷ 99 ∷ 111 ∷ 114 ∷ 110 ∷ 101 ∷ 114 ∷ 115 ∷ 32 ∷ 48 ∷ 32 ∷ 50 ∷ 32 ∷ 115 ∷ 105 ∷ 100 ∷ 101 ∷ 10 ∷
    -- line 1 corners 1 2 side
    108 ∷ 105 ∷ 110 ∷ 101 ∷ 32 ∷ 49 ∷ 32 ∷ 99 ∷ 111 ∷ 114 ∷ 110 ∷ 101 ∷ 114 ∷ 115 ∷ 32 ∷ 49 ∷ 32 ∷ 50 ∷ 32 ∷ 115 ∷ 105 ∷ 100 ∷ 101 ∷ 10 ∷ []

abbrev pub square_text : List ℕ
square_text =
    -- part - corners 4 levels 1 umbrellas 1 stems 0 rows 3 columns 3
    112 ∷ 97 ∷ 114 ∷ 116 ∷ 32 ∷ 45 ∷ 32 ∷ 99 ∷ 111 ∷ 114 ∷ 110 ∷ 101 ∷ 114 ∷ 115 ∷ 32 ∷ 52 ∷ 32 ∷ 108 ∷ 101 ∷ 118 ∷ 101 ∷ 108 ∷ 115 ∷ 32 ∷ 49 ∷ 32 ∷
    117 ∷ 109 ∷ 98 ∷ 114 ∷ 101 ∷ 108 ∷ 108 ∷ 97 ∷ 115 ∷ 32 ∷ 49 ∷ 32 ∷ 115 ∷ 116 ∷ 101 ∷ 109 ∷ 115 ∷ 32 ∷ 48 ∷ 32 ∷ 114 ∷ 111 ∷ 119 ∷ 115 ∷ 32 ∷ 51 ∷ 32 ∷
    99 ∷ 111 ∷ 108 ∷ 117 ∷ 109 ∷ 110 ∷ 115 ∷ 32 ∷ 51 ∷ 10 ∷
    -- corner 0 row 0 columns 0 to 1
    99 ∷ 111 ∷ 114 ∷ 110 ∷ 101 ∷ 114 ∷ 32 ∷ 48 ∷ 32 ∷ 114 ∷ 111 ∷ 119 ∷ 32 ∷ 48 ∷ 32 ∷ 99 ∷ 111 ∷ 108 ∷ 117 ∷ 109 ∷ 110 ∷ 115 ∷ 32 ∷ 48 ∷ 32 ∷ 116 ∷ 111 ∷ 32 ∷ 49 ∷ 10 ∷
    -- corner 1 row 2 columns 0 to 0
    99 ∷ 111 ∷ 114 ∷ 110 ∷ 101 ∷ 114 ∷ 32 ∷ 49 ∷ 32 ∷ 114 ∷ 111 ∷ 119 ∷ 32 ∷ 50 ∷ 32 ∷ 99 ∷ 111 ∷ 108 ∷ 117 ∷ 109 ∷ 110 ∷ 115 ∷ 32 ∷ 48 ∷ 32 ∷ 116 ∷ 111 ∷ 32 ∷ 48 ∷ 10 ∷
    -- corner 2 row 2 columns 1 to 2
    99 ∷ 111 ∷ 114 ∷ 110 ∷ 101 ∷ 114 ∷ 32 ∷ 50 ∷ 32 ∷ 114 ∷ 111 ∷ 119 ∷ 32 ∷ 50 ∷ 32 ∷ 99 ∷ 111 ∷ 108 ∷ 117 ∷ 109 ∷ 110 ∷ 115 ∷ 32 ∷ 49 ∷ 32 ∷ 116 ∷ 111 ∷ 32 ∷ 50 ∷ 10 ∷
    -- corner 3 row 0 columns 2 to 2
    99 ∷ 111 ∷ 114 ∷ 110 ∷ 101 ∷ 114 ∷ 32 ∷ 51 ∷ 32 ∷ 114 ∷ 111 ∷ 119 ∷ 32 ∷ 48 ∷ 32 ∷ 99 ∷ 111 ∷ 108 ∷ 117 ∷ 109 ∷ 110 ∷ 115 ∷ 32 ∷ 50 ∷ 32 ∷ 116 ∷ 111 ∷ 32 ∷ 50 ∷ 10 ∷
    -- line 0 corners 0 1 side
    108 ∷ 105 ∷ 110 ∷ 101 ∷ 32 ∷ 48 ∷ 32 ∷ 99 ∷ 111 ∷ 114 ∷ 110 ∷ 101 ∷ 114 ∷ 115 ∷ 32 ∷ 48 ∷ 32 ∷ 49 ∷ 32 ∷ 115 ∷ 105 ∷ 100 ∷ 101 ∷ 10 ∷
    -- level 0 to 1 corners 1 2 side
    108 ∷ 101 ∷ 118 ∷ 101 ∷ 108 ∷ 32 ∷ 48 ∷ 32 ∷ 116 ∷ 111 ∷ 32 ∷ 49 ∷ 32 ∷ 99 ∷ 111 ∷ 114 ∷ 110 ∷ 101 ∷ 114 ∷ 115 ∷ 32 ∷ 49 ∷ 32 ∷ 50 ∷ 32 ∷ 115 ∷ 105 ∷ 100 ∷ 101 ∷ 10 ∷
    -- line 1 corners 0 2 bend
    108 ∷ 105 ∷ 110 ∷ 101 ∷ 32 ∷ 49 ∷ 32 ∷ 99 ∷ 111 ∷ 114 ∷ 110 ∷ 101 ∷ 114 ∷ 115 ∷ 32 ∷ 48 ∷ 32 ∷ 50 ∷ 32 ∷ 98 ∷ 101 ∷ 110 ∷ 100 ∷ 10 ∷
    -- level 1 to 2 corners 0 3 side
    108 ∷ 101 ∷ 118 ∷ 101 ∷ 108 ∷ 32 ∷ 49 ∷ 32 ∷ 116 ∷ 111 ∷ 32 ∷ 50 ∷ 32 ∷ 99 ∷ 111 ∷ 114 ∷ 110 ∷ 101 ∷ 114 ∷ 115 ∷ 32 ∷ 48 ∷ 32 ∷ 51 ∷ 32 ∷ 115 ∷ 105 ∷ 100 ∷ 101 ∷ 10 ∷
    -- line 2 corners 2 3 side
    108 ∷ 105 ∷ 110 ∷ 101 ∷ 32 ∷ 50 ∷ 32 ∷ 99 ∷ 111 ∷ 114 ∷ 110 ∷ 101 ∷ 114 ∷ 115 ∷ 32 ∷ 50 ∷ 32 ∷ 51 ∷ 32 ∷ 115 ∷ 105 ∷ 100 ∷ 101 ∷ 10 ∷ []

pub record KnownTexts : Type 0 where
  pub triangle_text_lem : described triangle ≡ triangle_text
  pub square_text_lem : described (drawn 3 3 square_bars square_strokes) ≡ square_text

pub known : KnownTexts
unfolding described described_as line digits decimal corner_lines corner_line stroke_lines left_to_right insert_stroke stroke_line stroke_name edge_name drawn read_chart ask formed? recast?
    three? count? places behind shaped bars? free? joins? strokes? passes? gaps? part? part_sides common? common_of between stands? shares? crosses? bytes_of bar_bytes stroke_bytes bars_of flat_map
    stroke_edge Dec.and choose put keep numbers below all? sorted? mem? not? same? before? either? none_cross? cross? diagonal? dec_le dec_lt ℕ_discrete tree_of grow far farther near? best
    umbrella left_at right_at stem_at over_node ud fold
known = record { triangle_text_lem = refl; square_text_lem = refl }
