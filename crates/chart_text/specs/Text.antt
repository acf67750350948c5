-- A chart in words, for a person who compares two charts line by line: the line of the part that it shows, with the chart's own rows and columns; the bar of each corner;
-- and every stroke in the tape's order, from left to right, with its corners and whether it is a side or a bend. An upright is told by its number, as it is counted on the tape: its column.
-- A level stroke is told by its bars: the last column of the one and the first column of the other.
--   corner 0 row 0 columns 0 to 1
--   line 14 corners 3 9 bend
--   level 1 to 3 corners 2 3 side
-- A chart that is refused is told by its refusal. (`same_text` in proofs/Theorems.antt: two charts with the same text are the same chart, byte for byte.)
use mathlib.Core.List.{List, [], ◌∷◌, ◌++◌, flat_map}
use Rattle.std.specs.Prelude.{ℕ, ◌+◌, ◌*◌, min, max}
use Rattle.std.proofs.Math.Decide.{dec_le}
use Rattle.lists.specs.Lists.{below, choose}
use Rattle.polygon.specs.Polygon.{Edge, Polygon}
use Rattle.polygon.specs.Order.{diagonal?}
use Rattle.sheet.specs.Sheet.{Reading, refused, held}
use Rattle.umbrella.specs.Plan.{levels, umbrellas, stems}
use Rattle.umbrella.specs.Best.{plan_of}
use Rattle.chart.specs.Chart.{Bar, Stroke, upright, level, stroke_edge, Chart}
use Rattle.chart.specs.Decode.{chart_in}
use Rattle.log_line.specs.declared.Facts.{Facts}
use Rattle.log_line.specs.Line.{decimal, corners_word, columns_word, line, refused_line}
use Rattle.chart_reader.specs.Reader.{read_chart}

-- the words, with the blanks around them
abbrev pub corner_word : List ℕ
corner_word = 99 ∷ 111 ∷ 114 ∷ 110 ∷ 101 ∷ 114 ∷ 32 ∷ []

abbrev pub row_word : List ℕ
row_word = 32 ∷ 114 ∷ 111 ∷ 119 ∷ 32 ∷ []

abbrev pub to_word : List ℕ
to_word = 32 ∷ 116 ∷ 111 ∷ 32 ∷ []

abbrev pub line_word : List ℕ
line_word = 108 ∷ 105 ∷ 110 ∷ 101 ∷ 32 ∷ []

abbrev pub level_word : List ℕ
level_word = 108 ∷ 101 ∷ 118 ∷ 101 ∷ 108 ∷ 32 ∷ []

abbrev pub bend_word : List ℕ
bend_word = 32 ∷ 98 ∷ 101 ∷ 110 ∷ 100 ∷ 10 ∷ []

abbrev pub side_word : List ℕ
side_word = 32 ∷ 115 ∷ 105 ∷ 100 ∷ 101 ∷ 10 ∷ []

-- what the first line tells: the part that the chart shows, in the chart's own rows and columns
abbrev pub chart_facts : Chart → Polygon → Facts
chart_facts c p = record {
  corners = p.n;
  levels = levels (plan_of p);
  umbrellas = umbrellas (plan_of p);
  stems = stems (plan_of p);
  rows = c.rows;
  columns = c.columns;
}

-- the line of a corner with its bar: the row, the first and the last column
unfoldable pub corner_line : ℕ → Bar → List ℕ
corner_line x b =
    corner_word ++ (decimal x
    ++ (row_word ++ (decimal b.row
    ++ (columns_word ++ (decimal b.left
    ++ (to_word ++ (decimal b.right
    ++ (10 ∷ []))))))))

unfoldable pub corner_lines : Chart → List ℕ
corner_lines c = flat_map (λ x. corner_line x (c.bar x)) (below c.n)

-- "the cells of its row between its two bars": a level stroke runs from the last column of the left bar to the first column of the right bar
abbrev pub leaves : Chart → Edge → ℕ
leaves c e = min (c.bar e.0).right (c.bar e.1).right

abbrev pub arrives : Chart → Edge → ℕ
arrives c e = max (c.bar e.0).left (c.bar e.1).left

-- how a stroke is found on the tape
unfoldable pub stroke_name : Chart → Stroke → List ℕ
stroke_name c (upright e j) = line_word ++ decimal j
stroke_name c (level e) = level_word ++ (decimal (leaves c e) ++ (to_word ++ decimal (arrives c e)))

-- its corners, and whether it is a side or a bend of n corners
unfoldable pub edge_name : ℕ → Edge → List ℕ
edge_name n e = corners_word ++ (decimal e.0 ++ (32 ∷ (decimal e.1 ++ choose (diagonal? n e) bend_word side_word)))

unfoldable pub stroke_line : Chart → Stroke → List ℕ
stroke_line c s = stroke_name c s ++ edge_name c.n (stroke_edge s)

-- from left to right: an upright stands in its column, a level stroke behind the uprights of the column that it leaves; strokes that stand in the same place keep the chart's order
abbrev pub standing : Chart → Stroke → ℕ
standing c (upright e j) = 2 * j
standing c (level e) = 2 * leaves c e + 1

unfoldable pub insert_stroke : Chart → Stroke → List Stroke → List Stroke
insert_stroke c s [] = s ∷ []
insert_stroke c s (t ∷ ts) = choose (dec_le (standing c s) (standing c t)) (s ∷ (t ∷ ts)) (t ∷ insert_stroke c s ts)

unfoldable pub left_to_right : Chart → List Stroke → List Stroke
left_to_right c [] = []
left_to_right c (s ∷ ss) = insert_stroke c s (left_to_right c ss)

unfoldable pub stroke_lines : Chart → List ℕ
stroke_lines c = flat_map (stroke_line c) (left_to_right c c.strokes)

-- what is said of a chart that was read as a part, or refused
unfoldable pub described_as : Chart → Reading → List ℕ
described_as c (refused k) = refused_line k
described_as c (held p) = line (chart_facts c p) ++ (corner_lines c ++ stroke_lines c)

-- what is said of the bytes of a chart
unfoldable pub described : List ℕ → List ℕ
described s = described_as (chart_in s) (read_chart s)
