-- How the code holds a chart: tables over its edges, its columns and its corners. For the contracts.
use Rattle.std.specs.Prelude.{◌≡◌, Option, Some, None, ℕ, suc, ◌*◌, ◌-◌, ◌/◌, ◌%◌, ◌≤◌, ◌<◌, length, take, get_or}
use mathlib.Core.List.{List, [], ◌∷◌, ◌++◌, map, flat_map}
use Rattle.std.proofs.Math.Decide.{ℕ_discrete}
use Rattle.lists.specs.Lists.{below, choose}
use Rattle.polygon.specs.Polygon.{Edge, Ascending}
use Rattle.codec.specs.Numbers.{bytes16}
use Rattle.keys.specs.Keys.{edge_of, edges_of}
use Rattle.tree.specs.Table.{edge_at}
use Rattle.chart.specs.declared.Bar as code-bar
use Rattle.chart.specs.Chart.{Bar, Stroke, first, last, corner_rows}
use Rattle.chart.specs.Bytes.{bar_bytes, stroke_bytes}
use Rattle.chart.specs.Decode.{bar_on, drawn_as}

-- the first m numbers of a table are keys of edges of at most 1,024 corners
abbrev pub EdgeKeys : ℕ → List ℕ → Type 0
EdgeKeys m tr = (i : ℕ) → i < m → get_or tr i 0 < 1047552

-- each column's upright stands at a place of the table, as such a key
pub record Upright (tr columns : List ℕ) (j : ℕ) : Type 0 where
  pub listed : get_or columns j 0 < length tr
  pub early : get_or columns j 0 < 2045
  pub keyed : get_or tr (get_or columns j 0) 0 < 1047552

abbrev pub Uprights : List ℕ → List ℕ → Type 0
Uprights tr columns = (j : ℕ) → j < length columns → Upright tr columns j

-- the sizes of a chart of n corners and of the tables of it
pub record Sizes (n height : ℕ) (tr columns rows : List ℕ) : Type 0 where
  pub least : 3 ≤ n
  pub most : n ≤ 1024
  pub tall : height < 65536
  pub edges : 2 * n - 3 ≤ length tr
  pub corners : n ≤ length rows
  pub some : 1 ≤ length columns
  pub few : length columns < 65535

-- the first m numbers are keys of different edges, ascending
pub record Edges (m : ℕ) (tr : List ℕ) : Type 0 where
  pub keyed : EdgeKeys m tr
  pub ascending : Ascending (edges_of (take m tr))

-- the upright of each column stands at one of the first m places
abbrev pub Among : ℕ → List ℕ → Type 0
Among m columns = (j : ℕ) → j < length columns → get_or columns j 0 < m

-- a table whose first n places all hold v
abbrev pub FirstHold : ℕ → ℕ → List ℕ → Type 0
FirstHold n v table = (x : ℕ) → x < n → get_or table x 0 ≡ v

-- the first of the columns ps whose upright stands at the place i, if there is one, the first of them being column j
unfoldable pub column : ℕ → List ℕ → ℕ → Option ℕ
column j [] i = None
column j (p ∷ ps) i = choose (ℕ_discrete i p) (Some j) (column (suc j) ps i)

-- a table that has it for each place of an edge; and one that has none yet
abbrev pub Columns : List ℕ → List (Option ℕ) → Type 0
Columns columns stands = (i : ℕ) → i < 2045 → get_or stands i None ≡ column 0 columns i

abbrev pub NoColumns : List (Option ℕ) → Type 0
NoColumns stands = (length stands ≡ 2045) × ((i : ℕ) → i < 2045 → get_or stands i None ≡ None)

-- the stroke of the edge with the key k, by that column
abbrev pub edge_stroke : ℕ → Option ℕ → Stroke
edge_stroke k c = drawn_as (edge_of k) c

-- its map byte by that column, and its bytes before the column
abbrev pub stroke_map : Option ℕ → ℕ
stroke_map None = 0
stroke_map (Some j) = 1

abbrev pub edge_bytes : ℕ → Option ℕ → List ℕ
edge_bytes k c = stroke_map c ∷ (bytes16 (k / 1024) ++ bytes16 (k % 1024))

-- the rows, the first and the last columns of bars as the code holds them
abbrev pub rows_of : List code-bar.Bar → List ℕ
rows_of bars = map (λ (b : code-bar.Bar). b.row) bars

abbrev pub lefts_of : List code-bar.Bar → List ℕ
lefts_of bars = map (λ (b : code-bar.Bar). b.left) bars

abbrev pub rights_of : List code-bar.Bar → List ℕ
rights_of bars = map (λ (b : code-bar.Bar). b.right) bars

-- the bar of each corner, and the stroke of each edge
abbrev pub table_bar : List ℕ → List ℕ → List ℕ → ℕ → Bar
table_bar rows left right x = bar_on (get_or rows x 0) (get_or left x 0) (get_or right x 0)

abbrev pub table_stroke : List ℕ → List (Option ℕ) → ℕ → Stroke
table_stroke tr stands i = edge_stroke (get_or tr i 0) (get_or stands i None)

-- the bytes of the first n of them
abbrev pub bar_run : List ℕ → List ℕ → List ℕ → ℕ → List ℕ
bar_run rows left right n = flat_map bar_bytes (map (table_bar rows left right) (below n))

abbrev pub stroke_run : List ℕ → List (Option ℕ) → ℕ → List ℕ
stroke_run tr stands m = flat_map stroke_bytes (map (table_stroke tr stands) (below m))

-- left and right have the first and the last column of the bar of each of n corners, whose uprights are us
pub record Spans (n : ℕ) (us : List Edge) (left right : List ℕ) : Type 0 where
  pub lefts : (x : ℕ) → x < n → get_or left x 0 ≡ choose (ℕ_discrete x 0) 0 (first x us)
  pub rights : (x : ℕ) → x < n → get_or right x 0 ≡ choose (ℕ_discrete x (n - 1)) (length us - 1) (last x us)

-- rows has the row of each of n corners: 0, then rs, then 0
abbrev pub RowsAre : ℕ → List ℕ → List ℕ → Type 0
RowsAre n rs rows = (x : ℕ) → x < n → get_or rows x 0 ≡ get_or (corner_rows rs) x 0

-- the tables are those of a chart with the rows rs of its inner corners, the columns us and the edges es
pub record Laid (n : ℕ) (tr columns rows rs : List ℕ) (us es : List Edge) : Type 0 where
  pub corners : RowsAre n rs rows
  pub uprights : us ≡ map (edge_at tr) columns
  pub edges : es ≡ edges_of (take (2 * n - 3) tr)
