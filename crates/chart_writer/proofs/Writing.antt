-- Writing a chart field by field into an output: stores one behind the other are the chart's bytes, followed by what was there.
use mathlib.Core.Path.{◌≡◌, ap, sym, ◌∙◌}
use mathlib.Core.List.{List, ◌++◌, map, flat_map}
use Prim.Native.Nat.{ℕ, suc, ◌+◌, ◌*◌, ◌-◌, ◌≤◌, ◌<◌}
use native.Mathlib.Omega.{arith}
use lib.ListN.{length, take, get_or, length-map, length-append}
use lib.Seq.{sets}
use Rattle.lists.specs.Lists.{below}
use Rattle.lists.proofs.Places.{map_below, map_places}
use Rattle.lists.proofs.Stores.{sets_append, sets_front}
use Rattle.polygon.specs.Polygon.{Edge}
use Rattle.codec.specs.Numbers.{bytes16}
use Rattle.codec.specs.Answer.{Answer, refusal, written, write}
use Rattle.codec.proofs.Answers.{written_short, written_fits}
use Rattle.keys.specs.Keys.{edge_of, edges_of}
use Rattle.tree.specs.Table.{edge_at}
use Rattle.chart.specs.Chart.{stroke, Chart, layout, bars_of}
use Rattle.chart.specs.Bytes.{bar_bytes, stroke_bytes, bytes_of}
use Rattle.chart.proofs.Sizes.{bars_count, bars_size}
use Rattle.std.specs.Prelude.{Option}
use Rattle.chart_writer.specs.Tables.{Uprights, Sizes, Edges, Among, Laid, Columns, Spans, RowsAre, table_bar, table_stroke, bar_run, stroke_run}
use Rattle.chart_writer.proofs.Placing.{edge_listed, edges_count, stroke_is}

module _ (n h : ℕ) (rs : List ℕ) (us es : List Edge) (pos : 1 ≤ n) where
  abbrev C : Chart
  C = layout (n - 1) h rs us es

  -- the bars
  bars_are : (rows left right : List ℕ) → RowsAre n rs rows → Spans n us left right → bar_run rows left right n ≡ flat_map bar_bytes (bars_of C)
  unfolding bars_of layout
  bars_are rows left right R S =
      let e : suc (n - 1) ≡ n = omega arith in
      ap (flat_map bar_bytes) (rw e (map_below (table_bar rows left right) C.bar n (λ x k. λ i. record { row = R x k i; left = S.lefts x k i; right = S.rights x k i })))

  -- all fields
  bars_length : length (flat_map bar_bytes (bars_of C)) ≡ 6 * n
  unfolding layout
  bars_length = bars_size (bars_of C) ∙ omega (arith, bars_count C)

  module _ (strokes out : List ℕ) (s : strokes ≡ flat_map stroke_bytes C.strokes) where
    abbrev fields : List ℕ → List ℕ
    fields bars = bytes16 h ++ (bytes16 (length us) ++ (bytes16 n ++ (bars ++ strokes)))

    fields_are : bytes_of C ≡ fields (flat_map bar_bytes (bars_of C))
    unfolding bytes_of layout
    fields_are =
        let e : suc (n - 1) ≡ n = omega arith in
        rw s (ap (λ (m : ℕ). bytes16 h ++ (bytes16 (length us) ++ (bytes16 m ++ (flat_map bar_bytes (bars_of C) ++ flat_map stroke_bytes C.strokes)))) e)

    fields_size : length (bytes_of C) ≡ 6 + 6 * n + length strokes
    fields_size = ap length fields_are ∙ omega (arith, bars_length, length-append (flat_map bar_bytes (bars_of C)) strokes)

    too_short : length out < 6 + 6 * n + length strokes → refusal 8 out ≡ written (write (bytes_of C)) out
    too_short k = sym (written_short (bytes_of C) out (omega (arith, fields_size)))

    finished : (bars o : List ℕ) → bars ≡ flat_map bar_bytes (bars_of C) → 6 + 6 * n + length strokes ≤ length out
        → o ≡ sets (sets (sets (sets (sets out 0 (bytes16 h)) 2 (bytes16 (length us))) 4 (bytes16 n)) 6 bars) (6 + 6 * n) strokes
        → ◌≡◌ {A = Answer} (record { number = 0; size = 6 + 6 * n + length strokes; bytes = o }) (written (write (bytes_of C)) out)
    finished bars o b fits e =
        let k : length (bytes_of C) ≤ length out = omega (arith, fields_size) in
        let p : 6 + 6 * n ≡ 6 + length bars = omega (arith, bars_length, ap length b) in
        let o₁ : List ℕ = sets (sets (sets out 0 (bytes16 h)) 2 (bytes16 (length us))) 4 (bytes16 n) in
        let q : o ≡ sets out 0 (fields bars) = e ∙ (ap (λ (x : ℕ). sets (sets o₁ 6 bars) x strokes) p ∙ sym (sets_append bars strokes o₁ 6)) in
        rw (written_fits (bytes_of C) out k, ← fields_size, q, b, ← fields_are, sets_front (bytes_of C) out k)

-- the same by the tables that the code holds
module _ (n height : ℕ) (tr columns rows : List ℕ) (Z : Sizes n height tr columns rows) (E : Edges (2 * n - 3) tr) (A : Among (2 * n - 3) columns) where
  abbrev m : ℕ
  m = 2 * n - 3

  abbrev run : List (Option ℕ) → List ℕ
  run stands = stroke_run tr stands m

  pub uprights_keyed : Uprights tr columns
  uprights_keyed j h = record { listed = omega (arith, A j h, Z.edges); early = omega (arith, A j h, Z.most); keyed = E.keyed (get_or columns j 0) (A j h) }

  strokes_are : (stands : List (Option ℕ)) → Columns columns stands → run stands ≡ flat_map stroke_bytes (map (stroke 0 (map (edge_at tr) columns)) (edges_of (take m tr)))
  unfolding below
  strokes_are stands K =
      let e : m ≡ length (edges_of (take m tr)) = sym (edges_count m tr columns Z.edges E A) in
      ap (flat_map stroke_bytes)
      (ap (λ (k : ℕ). map (table_stroke tr stands) (below k)) e
      ∙ map_places (stroke 0 (map (edge_at tr) columns)) (table_stroke tr stands) (edge_of 0) (edges_of (take m tr)) 0
      (λ i k. let h : i < m = omega arith in let q : 0 + i ≡ i = omega arith in rw (q, edge_listed m tr columns Z.edges E A i h, K i (omega (arith, Z.most))) (stroke_is m tr columns Z.edges E A i h)))

  module _ (stands : List (Option ℕ)) (out : List ℕ) (K : Columns columns stands) (z : ℕ) (size : z ≡ length (run stands)) {rs : List ℕ} {us es : List Edge} (L : Laid n tr columns rows rs us es) where
    strokes_of_lem : run stands ≡ flat_map stroke_bytes (layout (n - 1) height rs us es).strokes
    unfolding layout
    strokes_of_lem = rw (L.uprights, L.edges) (strokes_are stands K)

    pub chart_short : length out < 6 + 6 * n + z → refusal 8 out ≡ written (write (bytes_of (layout (n - 1) height rs us es))) out
    chart_short k = too_short n height rs us es (omega (arith, Z.least)) (run stands) out strokes_of_lem (omega arith)

    -- by the bars of n corners, as tables of their fields
    pub chart_written : (corners left right o : List ℕ) (k : ℕ) → k ≡ n → ((x : ℕ) → x < n → get_or corners x 0 ≡ get_or rows x 0)
        → Spans n (map (edge_at tr) columns) left right → 6 + 6 * n + z ≤ length out
        → o ≡ sets (sets (sets (sets (sets out 0 (bytes16 height)) 2 (bytes16 (length columns))) 4 (bytes16 n)) 6 (bar_run corners left right k)) (6 + 6 * n) (run stands)
        → ◌≡◌ {A = Answer} (record { number = 0; size = 6 + 6 * n + z; bytes = o }) (written (write (bytes_of (layout (n - 1) height rs us es))) out)
    chart_written corners left right o k all R S fits e =
        let w : length us ≡ length columns = ap length L.uprights ∙ length-map columns (edge_at tr) in
        rw size
        (finished n height rs us es (omega (arith, Z.least)) (run stands) out strokes_of_lem (bar_run corners left right n) o
        (bars_are n height rs us es (omega (arith, Z.least)) corners left right (λ x h. R x h ∙ L.corners x h) (rw L.uprights S)) (omega arith)
        (rw w (rw all at e)))
