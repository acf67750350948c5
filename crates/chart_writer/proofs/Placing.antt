-- The column of each edge: one column at a time, from the last to the first, is stored at its upright's place; and the stroke of an edge by that column.
use mathlib.Core.Path.{◌≡◌, refl, sym, ◌∙◌, ap}
use mathlib.Core.List.{List, map}
use Prim.Native.Nat.{ℕ, zero, suc, ◌<◌, ◌≤◌}
use native.Mathlib.Decide.{ℕ_discrete}
use native.Mathlib.Omega.{arith}
use lib.ListN.{length, take, drop, get_or, set, length-map, drop_of_length-le, get_or-map}
use lib.Seq.{drop-cons, length-take-le, get_or-take, get_or-set_same, get_or-set_other}
use Rattle.lists.specs.Lists.{All, all_cons, all_nil, choose, sorted_cons, sorted_nil}
use Rattle.lists.proofs.Lists.{choose_no, choose_yes}
use Rattle.lists.proofs.Places.{all_at, at_all}
use Rattle.polygon.specs.Polygon.{Edge}
use Rattle.polygon.specs.Order.{same?, Distinct}
use Rattle.polygon.proofs.Sort.{distinct_of}
use Rattle.keys.specs.Keys.{edge_of, edges_of}
use Rattle.tree.specs.Table.{edge_at}
use Rattle.chart.specs.Chart.{upright, stroke}
use Rattle.std.specs.Prelude.{Option, Some, None}
use Rattle.chart_writer.specs.Tables.{Edges, Among, column, edge_stroke}

-- the columns from j on are stored
abbrev pub ColumnsPlaced : List ℕ → List (Option ℕ) → ℕ → Type 0
ColumnsPlaced columns stands j = (i : ℕ) → i < 2045 → get_or stands i None ≡ column j (drop j columns) i

module _ (columns : List ℕ) (stands : List (Option ℕ)) where
  pub placed_begin : ((i : ℕ) → i < 2045 → get_or stands i None ≡ None) → ColumnsPlaced columns stands (length columns)
  unfolding column
  placed_begin z i h = rw (drop_of_length-le columns {i = length columns} (omega arith)) (z i h)

  pub placed_next : (j : ℕ) → j < length columns → get_or columns j 0 < length stands → ColumnsPlaced columns stands (suc j) → ColumnsPlaced columns (set stands (get_or columns j 0) (Some j)) j
  unfolding column
  placed_next j h k P i q = rw (drop-cons columns j 0 h) (go (ℕ_discrete i (get_or columns j 0)))
    where
      go : (d : Dec (i ≡ get_or columns j 0)) → get_or (set stands (get_or columns j 0) (Some j)) i None ≡ choose d (Some j) (column (suc j) (drop (suc j) columns) i)
      go (yes p) =
          ap (λ (x : ℕ). get_or (set stands (get_or columns j 0) (Some j)) x None) p ∙ (get_or-set_same stands (get_or columns j 0) (Some j) None k ∙ sym (choose_yes (yes p) (column (suc j) (drop (suc j) columns) i) p))
      go (no p) = get_or-set_other stands (get_or columns j 0) i (Some j) None p ∙ (P i q ∙ sym (choose_no (no p) (Some j) p))

-- the places ps hold other edges than the place i, but for i itself
stroke_among : (tr : List ℕ) (i j : ℕ) {ps : List ℕ} → All (λ p. edge_at tr i ≡ edge_at tr p → i ≡ p) ps → edge_stroke (get_or tr i 0) (column j ps i) ≡ stroke j (map (edge_at tr) ps) (edge_at tr i)
unfolding column stroke choose
stroke_among tr i j all_nil = refl
stroke_among tr i j (all_cons {x = p} {l = ps} f a) = go (ℕ_discrete i p) (same? (edge_at tr i) (edge_at tr p)) (stroke_among tr i (suc j) a)
  where
    go : (d : Dec (i ≡ p)) (s : Dec (edge_at tr i ≡ edge_at tr p)) → edge_stroke (get_or tr i 0) (column (suc j) ps i) ≡ stroke (suc j) (map (edge_at tr) ps) (edge_at tr i)
        → edge_stroke (get_or tr i 0) (choose d (Some j) (column (suc j) ps i)) ≡ choose s (upright (edge_at tr i) j) (stroke (suc j) (map (edge_at tr) ps) (edge_at tr i))
    go (yes d) (yes s) e = refl
    go (yes d) (no s) e = absurd (s (ap (edge_at tr) d))
    go (no d) (yes s) e = absurd (d (f s))
    go (no d) (no s) e = e

-- different edges stand at different places
place_same : (d : Edge) {l : List Edge} → Distinct l → (i j : ℕ) → i < length l → j < length l → get_or l i d ≡ get_or l j d → i ≡ j
place_same d sorted_nil i j h k e = absurd (omega arith)
place_same d (sorted_cons a s) zero zero h k e = refl
place_same d (sorted_cons a s) zero (suc j) h k e = absurd (at_all d a j (omega arith) (sym e))
place_same d (sorted_cons a s) (suc i) zero h k e = absurd (at_all d a i (omega arith) e)
place_same d (sorted_cons a s) (suc i) (suc j) h k e = ap suc (place_same d s i j (omega arith) (omega arith) e)

module _ (m : ℕ) (tr columns : List ℕ) (fits : m ≤ length tr) (E : Edges m tr) (A : Among m columns) where
  pub edge_listed : (i : ℕ) → i < m → get_or (edges_of (take m tr)) i (edge_of 0) ≡ edge_at tr i
  edge_listed i h = get_or-map edge_of (take m tr) i 0 ∙ ap edge_of (get_or-take m tr i 0 h)

  pub edges_count : length (edges_of (take m tr)) ≡ m
  edges_count = length-map (take m tr) edge_of ∙ length-take-le m tr fits

  pub stroke_is : (i : ℕ) → i < m → edge_stroke (get_or tr i 0) (column 0 columns i) ≡ stroke 0 (map (edge_at tr) columns) (edge_at tr i)
  stroke_is i h =
      stroke_among tr i 0
      (all_at 0 columns (λ j k e. place_same (edge_of 0) (distinct_of E.ascending) i (get_or columns j 0) (omega (arith, edges_count)) (omega (arith, edges_count, A j k)) (edge_listed i h ∙ (e ∙ sym (edge_listed (get_or columns j 0) (A j k))))))
