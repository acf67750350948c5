-- The known parts of document 01 that are marked M, with the closed rows of request (v), one part more, the known sheets of requests (i), (ii), (iii), (iv), (v), (xi) and (xii), and known bars of request (x), as one list of cases.
-- proofs/Known.antt proves them all. (Document 01's own rows, before closing up, are in crate chart, proofs/Known.antt.)
use Rattle.std.specs.Prelude.{List, [], ◌∷◌, ◌++◌, ℕ}
use Rattle.std.proofs.Math.Option.{some}
use Rattle.polygon.specs.Polygon.{Edge, ◌—◌}
use Rattle.codec.specs.Numbers.{bytes16}
use Rattle.codec.specs.Answer.{refuse, write, refusal}
use Rattle.codec.specs.TwoOutputs.{refuse_both, write_both, refusal_both}
use Rattle.sheet.specs.Sheet.{pair_bytes}
use Rattle.edit.specs.Rules.{add_ear, remove_ear}
use Rattle.chart.specs.Chart.{Bar}
use Rattle.nearest.specs.declared.Cell.{Cell}
use Rattle.nearest.specs.Cells.{cell}
use Rattle.nearest.specs.Nearest as near
use Rattle.nearest.specs.Nearest.{none}
use Rattle.chart_reader.specs.Follow.{follow_refusal}
use Rattle.draw.specs.Label.{tape, label}
use Rattle.promises.specs.Case.{bar, Case, refused_by, counted, charted, barred, tall, wide, turned, changed, lined, in_order, valued, read_as, found, followed, limited, tightest, joined, joined_of, halved_at, halved_into}

-- a sheet without bit 2: its corner count, and its pairs as they are listed
unfoldable pub sheet : ℕ → List Edge → List ℕ
sheet n [] = 1 ∷ bytes16 n
sheet n (e ∷ es) = 3 ∷ (bytes16 n ++ pair_bytes (e ∷ es))

-- the triangle's and the square's sheet with bit 2 and its four bytes
abbrev pub numbered_triangle : List ℕ
numbered_triangle = 5 ∷ 0 ∷ 3 ∷ 0 ∷ 0 ∷ 0 ∷ 9 ∷ []

abbrev pub numbered_square : List ℕ
numbered_square = 7 ∷ 0 ∷ 4 ∷ 0 ∷ 2 ∷ 0 ∷ 0 ∷ 255 ∷ 255 ∷ 255 ∷ 255 ∷ []

-- the square's sheet with bit 3 and these two bytes for its angle, its diagonal higher corner first
abbrev pub bent_square : ℕ → ℕ → List ℕ
bent_square high low = 11 ∷ 0 ∷ 4 ∷ 0 ∷ 2 ∷ 0 ∷ 0 ∷ high ∷ low ∷ []

-- the triangle's line
abbrev pub triangle_line : List ℕ
triangle_line =
    112 ∷ 97 ∷ 114 ∷ 116 ∷ 32 ∷ 45 ∷ 32 ∷ 99 ∷ 111 ∷ 114 ∷ 110 ∷ 101 ∷ 114 ∷ 115 ∷ 32 ∷ 51 ∷ 32 ∷ 108 ∷ 101 ∷ 118 ∷ 101 ∷ 108 ∷ 115 ∷ 32 ∷ 49 ∷ 32 ∷
    117 ∷ 109 ∷ 98 ∷ 114 ∷ 101 ∷ 108 ∷ 108 ∷ 97 ∷ 115 ∷ 32 ∷ 49 ∷ 32 ∷ 115 ∷ 116 ∷ 101 ∷ 109 ∷ 115 ∷ 32 ∷ 48 ∷ 32 ∷ 114 ∷ 111 ∷ 119 ∷ 115 ∷ 32 ∷ 50 ∷ 32 ∷
    99 ∷ 111 ∷ 108 ∷ 117 ∷ 109 ∷ 110 ∷ 115 ∷ 32 ∷ 50 ∷ 10 ∷ []

-- a hexagon with (4,0) at 0.2 degrees, (0,2) at 0.1 and (2,4) at 0.3; and the pentagon on its corners 0 to 4
abbrev pub bent_hexagon : List ℕ
bent_hexagon = 11 ∷ 0 ∷ 6 ∷ 0 ∷ 4 ∷ 0 ∷ 0 ∷ 0 ∷ 0 ∷ 0 ∷ 2 ∷ 0 ∷ 2 ∷ 0 ∷ 4 ∷ 0 ∷ 2 ∷ 0 ∷ 1 ∷ 0 ∷ 3 ∷ []

abbrev pub bent_pentagon : List ℕ
bent_pentagon = 11 ∷ 0 ∷ 5 ∷ 0 ∷ 0 ∷ 0 ∷ 2 ∷ 0 ∷ 2 ∷ 0 ∷ 4 ∷ 0 ∷ 1 ∷ 0 ∷ 3 ∷ []

-- the triangle's chart with h rows and corner 1 on row r
abbrev pub triangle_chart : ℕ → ℕ → List ℕ
triangle_chart h r =
    0 ∷ h ∷ 0 ∷ 2 ∷ 0 ∷ 3 ∷
    0 ∷ 0 ∷ 0 ∷ 0 ∷ 0 ∷ 0 ∷ 0 ∷ r ∷ 0 ∷ 0 ∷ 0 ∷ 1 ∷ 0 ∷ 0 ∷ 0 ∷ 1 ∷ 0 ∷ 1 ∷
    1 ∷ 0 ∷ 0 ∷ 0 ∷ 1 ∷ 0 ∷ 0 ∷ 0 ∷ 0 ∷ 0 ∷ 0 ∷ 2 ∷ 1 ∷ 0 ∷ 1 ∷ 0 ∷ 2 ∷ 0 ∷ 1 ∷ []

-- two cells; the bars of n = 5, (0,3) (1,3), as document 01 gives them; bars not tested: two that share cells, one with left > right, and three above each other
abbrev pub line : ℕ → ℕ → ℕ → ℕ → Cell × Cell
line r j s k = (cell r j, cell s k)

abbrev pub stem_bars : List Bar
stem_bars = bar 0 0 3 ∷ bar 1 1 2 ∷ bar 1 0 0 ∷ bar 2 0 4 ∷ bar 0 4 4 ∷ []

abbrev pub loose_bars : List Bar
loose_bars = bar 3 0 9 ∷ bar 1 2 6 ∷ bar 1 0 4 ∷ bar 1 8 7 ∷ bar 2 0 0 ∷ []

-- a part with one hung piece, one with two beside each other, of which the first alone has a stem, and one with several
abbrev pub one_hung : List ℕ
one_hung = sheet 7 ((0 — 5) ∷ (1 — 5) ∷ (1 — 3) ∷ (3 — 5) ∷ [])

abbrev pub side_by_side : List ℕ
side_by_side = sheet 12 ((0 — 6) ∷ (0 — 10) ∷ (1 — 3) ∷ (1 — 5) ∷ (1 — 6) ∷ (3 — 5) ∷ (6 — 8) ∷ (6 — 10) ∷ (8 — 10) ∷ [])

abbrev pub many_hung : List ℕ
many_hung = sheet 11 ((0 — 3) ∷ (0 — 9) ∷ (1 — 3) ∷ (3 — 6) ∷ (3 — 9) ∷ (4 — 6) ∷ (6 — 8) ∷ (6 — 9) ∷ [])

-- the tightest parts of 2 and 3 levels
abbrev pub seven_corners : List ℕ
seven_corners = sheet 7 ((0 — 3) ∷ (1 — 3) ∷ (3 — 5) ∷ (3 — 6) ∷ [])

abbrev pub fifteen_corners : List ℕ
fifteen_corners =
    sheet 15 ((0 — 7) ∷ (1 — 4) ∷ (1 — 7) ∷ (2 — 4) ∷ (4 — 6) ∷ (4 — 7) ∷ (7 — 10) ∷ (7 — 13) ∷ (7 — 14) ∷ (8 — 10) ∷ (10 — 12) ∷ (10 — 13) ∷ [])

abbrev pub cases : List Case
cases =
    -- "n = 3: 1 level." "levels 1 umbrellas 1 stems 0"
    counted (sheet 3 []) 1 1 0
    -- "Chart in hexadecimal: 0003 0002 0003; 0000 0000 0000, 0002 0000 0001, 0000 0001 0001; 01 0000 0001 0000, 00 0000 0002, 01 0001 0002 0001." Closed up: 2 rows, and corner 1 on row 1
    ∷ charted (sheet 3 []) (triangle_chart 2 1)
    -- "Line for sheet 01 00 03: `part - corners 3 levels 1 umbrellas 1 stems 0 rows 3 columns 2`". Closed up: rows 2
    ∷ lined (sheet 3 []) triangle_line
    -- "A refusal prints `refused` and its number, as `refused 3`"
    ∷ lined (sheet 2 []) (114 ∷ 101 ∷ 102 ∷ 117 ∷ 115 ∷ 101 ∷ 100 ∷ 32 ∷ 51 ∷ 10 ∷ [])
    -- "n = 4, (0,2): bars, row and columns: 0: 0, 0-1; 1: 2, 0-0; 2: 2, 1-2; 3: 0, 2-2." Closed up: row 1 for row 2
    ∷ barred (sheet 4 ((0 — 2) ∷ [])) (bar 0 0 1 ∷ bar 1 0 0 ∷ bar 1 1 2 ∷ bar 0 2 2 ∷ [])
    -- "n = 5, (0,3) (1,3): stem; 0: 0, 0-3; 1: 1, 1-2; 2: 1, 0-0; 3: 2, 0-4; 4: 0, 4-4."
    ∷ counted (sheet 5 ((0 — 3) ∷ (1 — 3) ∷ [])) 1 1 1
    ∷ barred (sheet 5 ((0 — 3) ∷ (1 — 3) ∷ [])) (bar 0 0 3 ∷ bar 1 1 2 ∷ bar 1 0 0 ∷ bar 2 0 4 ∷ bar 0 4 4 ∷ [])
    -- "n = 5, (1,4) (1,3): 0: 0, 0-0; 1: 2, 0-4; 2: 1, 4-4; 3: 1, 2-3; 4: 0, 1-4."
    ∷ barred (sheet 5 ((1 — 4) ∷ (1 — 3) ∷ [])) (bar 0 0 0 ∷ bar 2 0 4 ∷ bar 1 4 4 ∷ bar 1 2 3 ∷ bar 0 1 4 ∷ [])
    -- "n = 6, (0,2) (2,4) (0,4): 1 level, 1 stem, 6 columns."
    ∷ counted (sheet 6 ((0 — 2) ∷ (2 — 4) ∷ (0 — 4) ∷ [])) 1 1 1
    ∷ wide (sheet 6 ((0 — 2) ∷ (2 — 4) ∷ (0 — 4) ∷ [])) 6
    -- "n = 7, (0,5) (1,5) (1,3) (3,5): 2 levels, 2 umbrellas, no stem, 7 columns."
    ∷ counted one_hung 2 2 0
    ∷ wide one_hung 7
    -- "n = 5, (0,2) (1,3): 7. (0,2) (2,0): 6. (0,4) (1,3): 5."
    ∷ refused_by (sheet 5 ((0 — 2) ∷ (1 — 3) ∷ [])) 7
    ∷ refused_by (sheet 5 ((0 — 2) ∷ (2 — 0) ∷ [])) 6
    ∷ refused_by (sheet 5 ((0 — 4) ∷ (1 — 3) ∷ [])) 5
    -- "n = 4, (0,2) turned: (1,3); turned again: (0,2)."
    ∷ turned (sheet 4 ((0 — 2) ∷ [])) 0 2 (sheet 4 ((1 — 3) ∷ []))
    ∷ turned (sheet 4 ((1 — 3) ∷ [])) 1 3 (sheet 4 ((0 — 2) ∷ []))
    -- Not document 01's, whose bars are all of parts without a hung piece. Here (1,3) hangs on row 1, downwards and reversed, and (4,6) and (6,9) on row 2D, upwards; the stem is built from the right.
    ∷ counted many_hung 2 4 1
    ∷ barred many_hung (bar 0 0 12 ∷ bar 1 10 11 ∷ bar 3 9 10 ∷ bar 1 0 9 ∷ bar 4 0 1 ∷ bar 2 1 2 ∷ bar 4 2 5 ∷ bar 2 4 4 ∷ bar 2 5 6 ∷ bar 4 6 13 ∷ bar 0 13 13 ∷ [])
    -- Request (xii), "A sheet that still has it is read and its four bytes are skipped": without them the length is not exact
    ∷ refused_by (5 ∷ 0 ∷ 3 ∷ []) 2
    -- "the result has none": room for three bytes is enough, for two it is not
    ∷ in_order numbered_triangle (7 ∷ 7 ∷ 7 ∷ []) (record { number = 0; size = 3; bytes = 1 ∷ 0 ∷ 3 ∷ [] })
    ∷ in_order numbered_triangle (7 ∷ 7 ∷ []) (record { number = 8; size = 0; bytes = 7 ∷ 7 ∷ [] })
    ∷ turned numbered_square 2 0 (sheet 4 ((1 — 3) ∷ []))
    -- "and the log prints `-` always"
    ∷ lined numbered_triangle triangle_line
    -- Request (xi), "bit 3 with n = 3": 23, also behind the four bytes of bit 2; with two bytes more the length is not exact; with bit 1 it is 4. "Refusal 1 now covers bits 4 to 7."
    ∷ refused_by (9 ∷ 0 ∷ 3 ∷ []) 23
    ∷ refused_by (13 ∷ 0 ∷ 3 ∷ 0 ∷ 0 ∷ 0 ∷ 9 ∷ []) 23
    ∷ refused_by (9 ∷ 0 ∷ 3 ∷ 0 ∷ 0 ∷ []) 2
    ∷ refused_by (11 ∷ 0 ∷ 3 ∷ []) 4
    ∷ refused_by (17 ∷ 0 ∷ 3 ∷ []) 1
    -- "an angle outside −1,800 to 1,800": −1,801, 1,801, 32,767 and −32,768; "none may be missing when the bit stands"
    ∷ refused_by (bent_square 248 247) 23
    ∷ refused_by (bent_square 7 9) 23
    ∷ refused_by (bent_square 127 255) 23
    ∷ refused_by (bent_square 128 0) 23
    ∷ refused_by (11 ∷ 0 ∷ 4 ∷ 0 ∷ 2 ∷ 0 ∷ 0 ∷ []) 2
    -- −1,800 and 1,800, in all the room there must be; "An angle may be 0", and bit 3 is kept
    ∷ in_order (bent_square 248 248) (7 ∷ 7 ∷ 7 ∷ 7 ∷ 7 ∷ 7 ∷ 7 ∷ 7 ∷ 7 ∷ []) (record { number = 0; size = 9; bytes = 11 ∷ 0 ∷ 4 ∷ 0 ∷ 0 ∷ 0 ∷ 2 ∷ 248 ∷ 248 ∷ [] })
    ∷ in_order (bent_square 7 8) (7 ∷ 7 ∷ 7 ∷ 7 ∷ 7 ∷ 7 ∷ 7 ∷ 7 ∷ []) (record { number = 8; size = 0; bytes = 7 ∷ 7 ∷ 7 ∷ 7 ∷ 7 ∷ 7 ∷ 7 ∷ 7 ∷ [] })
    ∷ in_order (bent_square 0 0) (7 ∷ 7 ∷ 7 ∷ 7 ∷ 7 ∷ 7 ∷ 7 ∷ 7 ∷ 7 ∷ []) (record { number = 0; size = 9; bytes = 11 ∷ 0 ∷ 4 ∷ 0 ∷ 0 ∷ 0 ∷ 2 ∷ 0 ∷ 0 ∷ [] })
    -- "right after 7": two that cross, with angles out of range
    ∷ refused_by (11 ∷ (bytes16 5 ++ (pair_bytes ((0 — 2) ∷ (1 — 3) ∷ []) ++ (127 ∷ 255 ∷ 128 ∷ 0 ∷ [])))) 7
    -- "setting in order moves each with its pair": (1,3) with 10 and (3,0) with −1, behind the four bytes of bit 2
    ∷ in_order (15 ∷ (bytes16 5 ++ (pair_bytes ((1 — 3) ∷ (3 — 0) ∷ []) ++ (9 ∷ 9 ∷ 9 ∷ 9 ∷ 0 ∷ 10 ∷ 255 ∷ 255 ∷ [])))) (7 ∷ 7 ∷ 7 ∷ 7 ∷ 7 ∷ 7 ∷ 7 ∷ 7 ∷ 7 ∷ 7 ∷ 7 ∷ 7 ∷ 7 ∷ 7 ∷ 7 ∷ [])
    (record { number = 0; size = 15; bytes = 11 ∷ (bytes16 5 ++ (pair_bytes ((0 — 3) ∷ (1 — 3) ∷ []) ++ (255 ∷ 255 ∷ 0 ∷ 10 ∷ []))) })
    -- "A turned diagonal starts at 0", also when it is turned back
    ∷ turned (bent_square 1 194) 2 0 (11 ∷ 0 ∷ 4 ∷ 0 ∷ 1 ∷ 0 ∷ 3 ∷ 0 ∷ 0 ∷ [])
    ∷ turned (11 ∷ 0 ∷ 4 ∷ 0 ∷ 1 ∷ 0 ∷ 3 ∷ 0 ∷ 0 ∷ []) 1 3 (11 ∷ 0 ∷ 4 ∷ 0 ∷ 0 ∷ 0 ∷ 2 ∷ 0 ∷ 0 ∷ [])
    -- "as does the diagonal of an added corner"; "its own n is over 3": a corner off, and one on again
    ∷ changed (bent_square 1 194) (add_ear 3) (11 ∷ (bytes16 5 ++ (pair_bytes ((0 — 2) ∷ (0 — 3) ∷ []) ++ (1 ∷ 194 ∷ 0 ∷ 0 ∷ []))))
    ∷ changed (bent_square 1 194) (remove_ear 1) (sheet 3 [])
    ∷ changed (sheet 3 []) (add_ear 0) (sheet 4 ((0 — 2) ∷ []))
    -- "The chart doesn't depend on angles."
    ∷ counted (bent_square 1 194) 1 1 0
    ∷ barred (bent_square 1 194) (bar 0 0 1 ∷ bar 1 0 0 ∷ bar 1 1 2 ∷ bar 0 2 2 ∷ [])
    -- Request (iv), "handle, fans, partial umbrellas, then the whole": the triangle, "(0 if none)", and one of its sides
    ∷ valued (sheet 3 []) 0 2 (0 ∷ 0 ∷ 0 ∷ 0 ∷ 0 ∷ 1 ∷ [])
    ∷ valued (sheet 3 []) 1 2 (0 ∷ 0 ∷ 0 ∷ 0 ∷ 0 ∷ 0 ∷ [])
    -- the hexagon: the root, whose stem goes across (2,4), and (0,4), where either of two pieces is left hanging
    ∷ valued (sheet 6 ((0 — 2) ∷ (2 — 4) ∷ (0 — 4) ∷ [])) 0 5 (1 ∷ 1 ∷ 0 ∷ 0 ∷ 0 ∷ 1 ∷ [])
    ∷ valued (sheet 6 ((0 — 2) ∷ (2 — 4) ∷ (0 — 4) ∷ [])) 0 4 (1 ∷ 0 ∷ 0 ∷ 0 ∷ 0 ∷ 1 ∷ [])
    -- n = 7, (0,5) (1,5) (1,3) (3,5): the root, and (3,5), which is on no rim
    ∷ valued one_hung 0 6 (1 ∷ 1 ∷ 0 ∷ 1 ∷ 0 ∷ 2 ∷ [])
    ∷ valued one_hung 0 5 (1 ∷ 0 ∷ 1 ∷ 0 ∷ 0 ∷ 1 ∷ [])
    ∷ valued one_hung 3 5 (0 ∷ 0 ∷ 0 ∷ 0 ∷ 0 ∷ 1 ∷ [])
    -- Request (v), "The triangle now has 2 rows, and so has every part whose umbrella has no stem and nothing hung.": the square, and a fan of six corners
    ∷ tall (sheet 3 []) 2
    ∷ tall (sheet 4 ((0 — 2) ∷ [])) 2
    ∷ tall (sheet 6 ((0 — 2) ∷ (0 — 3) ∷ (0 — 4) ∷ [])) 2
    -- "become a ceiling": it is reached with a stem, by one level and by two; with one hung piece and no stem there is a row a level and one more, rows 0, 2 and 4 of document 01's
    ∷ tall (sheet 6 ((0 — 2) ∷ (2 — 4) ∷ (0 — 4) ∷ [])) 3
    ∷ tall many_hung 5
    ∷ tall one_hung 3
    ∷ barred one_hung (bar 0 0 5 ∷ bar 2 0 2 ∷ bar 1 1 1 ∷ bar 1 2 3 ∷ bar 1 4 4 ∷ bar 2 3 6 ∷ bar 0 6 6 ∷ [])
    -- of the whole chart, not of a piece by itself: row 3 of document 01's carries bars of the first hung piece alone and stays, as row 2, beside the second; row 1 goes
    ∷ tall side_by_side 4
    ∷ barred side_by_side (bar 0 0 12 ∷ bar 3 0 5 ∷ bar 2 4 4 ∷ bar 2 2 3 ∷ bar 2 1 1 ∷ bar 1 1 6 ∷ bar 3 6 9 ∷ bar 1 8 8 ∷ bar 1 9 10 ∷ bar 1 11 11 ∷ bar 3 10 13 ∷ bar 0 13 13 ∷ [])
    -- "Charts handed in may still have them.": the triangle's chart by document 01, with an empty row between, with two, with one below, and as it is drawn now
    ∷ read_as (triangle_chart 3 2) (sheet 3 [])
    ∷ read_as (triangle_chart 4 3) (sheet 3 [])
    ∷ read_as (triangle_chart 3 1) (sheet 3 [])
    ∷ read_as (triangle_chart 2 1) (sheet 3 [])
    -- Request (x), "whether a bar stands between two cells of a row or column": either way along a column and a row
    ∷ found stem_bars (line 0 0 2 0) (near.bar 2)
    ∷ found stem_bars (line 2 1 0 1) (near.bar 1)
    ∷ found stem_bars (line 1 0 1 4) (near.bar 1)
    ∷ found stem_bars (line 2 3 0 3) none
    -- "neither cell counted": neighbours, the same cell; a bar that also has an end cell counts by its cells between
    ∷ found stem_bars (line 0 0 1 0) none
    ∷ found stem_bars (line 1 1 1 1) none
    ∷ found stem_bars (line 1 0 1 1) none
    ∷ found stem_bars (line 0 2 0 4) (near.bar 0)
    ∷ found stem_bars (line 2 4 2 0) (near.bar 3)
    -- "the corner of such a bar nearest the first cell", not the second, and not the lowest
    ∷ found loose_bars (line 0 0 4 0) (near.bar 2)
    ∷ found loose_bars (line 4 0 0 0) (near.bar 0)
    ∷ found loose_bars (line 1 9 1 0) (near.bar 1)
    -- "(the lowest if bars share a cell)"; a bar with left > right has no cell; cells that are not of one row or column
    ∷ found loose_bars (line 0 3 4 3) (near.bar 1)
    ∷ found loose_bars (line 1 1 1 9) (near.bar 1)
    ∷ found loose_bars (line 1 6 1 9) none
    ∷ found loose_bars (line 0 0 3 3) none
    -- of a chart's bytes: found, none; 14 and 15 before 9; 9 for a cell outside the chart, and for cells that are not of one row or column
    ∷ followed (triangle_chart 3 1) (line 0 0 2 0) (record { number = 0; found = near.bar 1 })
    ∷ followed (triangle_chart 3 2) (line 0 0 2 0) (record { number = 0; found = none })
    ∷ followed [] (line 0 0 2 0) (follow_refusal 14)
    ∷ followed (triangle_chart 3 3) (line 0 0 9 9) (follow_refusal 15)
    ∷ followed (triangle_chart 3 1) (line 0 0 3 0) (follow_refusal 9)
    ∷ followed (triangle_chart 3 1) (line 0 0 2 1) (follow_refusal 9)
    -- Request (ii), "for each D .. some part has exactly that many": 3, 7 and 15 corners have 1, 2 and 3 levels, and a row more
    ∷ tightest 1 (sheet 3 [])
    ∷ tightest 2 seven_corners
    ∷ counted seven_corners 2 3 0
    ∷ tall seven_corners 3
    ∷ tightest 3 fifteen_corners
    ∷ counted fifteen_corners 3 7 0
    ∷ tall fifteen_corners 4
    -- "The printer calls the same drawing with its own limit": the triangle's chart on a label, in all the room there must be, and in a byte less
    ∷ limited label (sheet 3 []) (triangle_chart 9 9) (record { number = 0; size = 43; bytes = triangle_chart 2 1 })
    ∷ limited label (sheet 3 []) [] (refusal 8 [])
    -- "after 7 and before 8": of the hexagon's three rows two are too few, also where the output is too short; three are not, and no limit refuses it; a sheet that is refused has its own number
    ∷ limited (some 2) (sheet 6 ((0 — 2) ∷ (2 — 4) ∷ (0 — 4) ∷ [])) [] (refusal 19 [])
    ∷ limited (some 3) (sheet 6 ((0 — 2) ∷ (2 — 4) ∷ (0 — 4) ∷ [])) [] (refusal 8 [])
    ∷ limited tape (sheet 6 ((0 — 2) ∷ (2 — 4) ∷ (0 — 4) ∷ [])) [] (refusal 8 [])
    ∷ limited (some 0) (sheet 5 ((0 — 2) ∷ (1 — 3) ∷ [])) [] (refusal 7 [])
    -- "counts closed rows" (request (v)): rows 0, 2 and 4 of document 01's are three
    ∷ limited (some 3) one_hung [] (refusal 8 [])
    ∷ limited (some 2) one_hung [] (refusal 19 [])
    -- Request (i), "its corner j becomes i+j, .., and the first's later corners move up to match": the second is not turned round, the seam is there once
    ∷ joined (sheet 3 []) (sheet 4 ((0 — 2) ∷ [])) 0 (write (sheet 5 ((0 — 2) ∷ (0 — 3) ∷ [])))
    ∷ joined (sheet 3 []) (sheet 4 ((0 — 2) ∷ [])) 1 (write (sheet 5 ((1 — 3) ∷ (1 — 4) ∷ [])))
    ∷ joined (sheet 4 ((0 — 2) ∷ [])) (sheet 4 ((3 — 1) ∷ [])) 1 (write (sheet 6 ((0 — 4) ∷ (1 — 4) ∷ (2 — 4) ∷ [])))
    ∷ joined (sheet 4 ((1 — 3) ∷ [])) (sheet 4 ((0 — 2) ∷ [])) 2 (write (sheet 6 ((1 — 5) ∷ (2 — 4) ∷ (2 — 5) ∷ [])))
    -- "its levels are at least those of either half and at most their sum": 1 and 1 give 1, and 1 and 1 give 2
    ∷ joined (sheet 3 []) (sheet 3 []) 0 (write (sheet 4 ((0 — 2) ∷ [])))
    ∷ counted (sheet 4 ((0 — 2) ∷ [])) 1 1 0
    ∷ counted (sheet 5 ((0 — 2) ∷ (2 — 4) ∷ [])) 1 1 0
    ∷ joined (sheet 4 ((0 — 2) ∷ [])) (sheet 5 ((0 — 2) ∷ (2 — 4) ∷ [])) 1 (write (sheet 7 ((0 — 5) ∷ (1 — 3) ∷ (1 — 5) ∷ (3 — 5) ∷ [])))
    -- a triangle is a corner added
    ∷ joined (sheet 4 ((0 — 2) ∷ [])) (sheet 3 []) 1 (write (sheet 5 ((0 — 3) ∷ (1 — 3) ∷ [])))
    ∷ changed (sheet 4 ((0 — 2) ∷ [])) (add_ear 1) (sheet 5 ((0 — 3) ∷ (1 — 3) ∷ []))
    -- bit 3 by the first, by the second; the seam and what had no angle start at 0; the numbers of bit 2 are skipped
    ∷ joined (bent_square 0 5) numbered_square 0 (write (11 ∷ 0 ∷ 6 ∷ 0 ∷ 0 ∷ 0 ∷ 2 ∷ 0 ∷ 0 ∷ 0 ∷ 3 ∷ 0 ∷ 0 ∷ 0 ∷ 4 ∷ 0 ∷ 0 ∷ 0 ∷ 0 ∷ 0 ∷ 5 ∷ []))
    ∷ joined numbered_square (bent_square 255 255) 1 (write (11 ∷ 0 ∷ 6 ∷ 0 ∷ 0 ∷ 0 ∷ 4 ∷ 0 ∷ 1 ∷ 0 ∷ 3 ∷ 0 ∷ 1 ∷ 0 ∷ 4 ∷ 0 ∷ 0 ∷ 255 ∷ 255 ∷ 0 ∷ 0 ∷ []))
    -- "The first sheet's refusals come before the second's; then 9 also for the root side, 10 when more than 1,024 corners would result"
    ∷ joined (sheet 5 ((0 — 2) ∷ (1 — 3) ∷ [])) [] 9 (refuse 7)
    ∷ joined (sheet 3 []) (bent_square 7 9) 2 (refuse 23)
    ∷ joined (sheet 3 []) (bent_square 7 8) 2 (refuse 9)
    ∷ joined (sheet 3 []) (bent_square 7 8) 1 (write (11 ∷ 0 ∷ 5 ∷ 0 ∷ 1 ∷ 0 ∷ 3 ∷ 0 ∷ 1 ∷ 0 ∷ 4 ∷ 7 ∷ 8 ∷ 0 ∷ 0 ∷ []))
    ∷ joined_of 1023 3 1021 0
    ∷ joined_of 1022 4 0 0
    ∷ joined_of 3 1023 0 0
    ∷ joined_of 1024 3 0 10
    ∷ joined_of 1022 5 0 10
    ∷ joined_of 3 1024 0 10
    ∷ joined_of 1024 1024 1023 9
    -- Request (iii), "Two sheets come out: corners a to b, rooted at the cut, and the rest with its old root.": x becomes x-a in the first; in the second the corners from b on move down, and the cut is a diagonal of neither
    ∷ halved_at (sheet 4 ((0 — 2) ∷ [])) 0 2 (write_both (sheet 3 []) (sheet 3 []))
    ∷ halved_at (sheet 5 ((1 — 3) ∷ (1 — 4) ∷ [])) 1 4 (write_both (sheet 4 ((0 — 2) ∷ [])) (sheet 3 []))
    ∷ halved_at (sheet 5 ((1 — 3) ∷ (1 — 4) ∷ [])) 1 3 (write_both (sheet 3 []) (sheet 4 ((1 — 3) ∷ [])))
    ∷ halved_at (sheet 7 ((0 — 5) ∷ (1 — 3) ∷ (1 — 5) ∷ (3 — 5) ∷ [])) 1 5 (write_both (sheet 5 ((0 — 2) ∷ (2 — 4) ∷ [])) (sheet 4 ((0 — 2) ∷ [])))
    ∷ halved_at (sheet 7 ((0 — 5) ∷ (1 — 3) ∷ (1 — 5) ∷ (3 — 5) ∷ [])) 0 5 (write_both (sheet 6 ((1 — 3) ∷ (1 — 5) ∷ (3 — 5) ∷ [])) (sheet 3 []))
    -- either order; and "Joining them again at the same seam gives the part set in order."
    ∷ halved_at (sheet 7 ((0 — 5) ∷ (1 — 3) ∷ (1 — 5) ∷ (3 — 5) ∷ [])) 5 3 (write_both (sheet 3 []) (sheet 6 ((0 — 4) ∷ (1 — 3) ∷ (1 — 4) ∷ [])))
    ∷ joined (sheet 6 ((0 — 4) ∷ (1 — 3) ∷ (1 — 4) ∷ [])) (sheet 3 []) 3 (write (sheet 7 ((0 — 5) ∷ (1 — 3) ∷ (1 — 5) ∷ (3 — 5) ∷ [])))
    -- "Cut halves keep theirs; joined again they give the old part but for a 0 on the seam, or without angles when both halves are triangles."
    ∷ halved_at bent_hexagon 0 4 (write_both bent_pentagon (sheet 3 []))
    ∷ halved_at bent_hexagon 2 0 (write_both (sheet 3 []) (11 ∷ 0 ∷ 5 ∷ 0 ∷ 0 ∷ 0 ∷ 3 ∷ 0 ∷ 1 ∷ 0 ∷ 3 ∷ 0 ∷ 2 ∷ 0 ∷ 3 ∷ []))
    ∷ joined (sheet 3 []) bent_pentagon 0 (write (11 ∷ 0 ∷ 6 ∷ 0 ∷ 0 ∷ 0 ∷ 2 ∷ 0 ∷ 0 ∷ 0 ∷ 4 ∷ 0 ∷ 2 ∷ 0 ∷ 4 ∷ 0 ∷ 1 ∷ 0 ∷ 0 ∷ 0 ∷ 3 ∷ []))
    ∷ halved_at (bent_square 0 5) 0 2 (write_both (sheet 3 []) (sheet 3 []))
    -- no bit 2 is kept
    ∷ halved_at numbered_square 2 0 (write_both (sheet 3 []) (sheet 3 []))
    -- "Refusals are those of turning a diagonal": the sheet's, 9, and 13 for a side, the root and equal corners
    ∷ halved_at (bent_square 7 9) 9 9 (refuse_both 23)
    ∷ halved_at (sheet 4 ((0 — 2) ∷ [])) 0 4 (refuse_both 9)
    ∷ halved_at (sheet 4 ((0 — 2) ∷ [])) 4 4 (refuse_both 9)
    ∷ halved_at (sheet 4 ((0 — 2) ∷ [])) 1 2 (refuse_both 13)
    ∷ halved_at (sheet 4 ((0 — 2) ∷ [])) 0 3 (refuse_both 13)
    ∷ halved_at (sheet 4 ((0 — 2) ∷ [])) 2 2 (refuse_both 13)
    ∷ halved_at (sheet 4 ((0 — 2) ∷ [])) 1 3 (refuse_both 13)
    -- "with 8 if either output is too short.": and then neither is touched; bytes beyond the results stay
    ∷ halved_into (sheet 4 ((0 — 2) ∷ [])) 0 2 (9 ∷ 9 ∷ 9 ∷ 9 ∷ []) (8 ∷ 8 ∷ []) (refusal_both 8 (9 ∷ 9 ∷ 9 ∷ 9 ∷ []) (8 ∷ 8 ∷ []))
    ∷ halved_into (sheet 4 ((0 — 2) ∷ [])) 0 2 (9 ∷ 9 ∷ []) (8 ∷ 8 ∷ 8 ∷ []) (refusal_both 8 (9 ∷ 9 ∷ []) (8 ∷ 8 ∷ 8 ∷ []))
    ∷ halved_into (sheet 5 ((0 — 2) ∷ (0 — 3) ∷ [])) 0 3 (9 ∷ 9 ∷ 9 ∷ 9 ∷ 9 ∷ 9 ∷ 9 ∷ 9 ∷ []) (8 ∷ 8 ∷ 8 ∷ [])
    (record { answer = record { number = 0; size = 7; bytes = 3 ∷ 0 ∷ 4 ∷ 0 ∷ 0 ∷ 0 ∷ 2 ∷ 9 ∷ [] }; count = 3; second = sheet 3 [] })
    ∷ []
