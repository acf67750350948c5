-- The chart of every plan of every tree: it is true, its strokes are the tree's edges, each column is named by one upright stroke.
-- Brings together Draw (the columns), EachEdge (their uprights), Width (how many) and Truth.
use mathlib.Core.Path.{◌≡◌, refl, sym, ◌∙◌, ap, subst}
use mathlib.Core.Logic.{inl, inr, ◌≢◌}
use mathlib.Core.List.{List, ◌∷◌, map}
use Prim.Native.Nat.{ℕ, suc, ◌+◌, ◌*◌, ◌≤◌, ◌<◌}
use native.Mathlib.Decide.{dec_le}
use native.Mathlib.Omega.{arith}
use lib.ListN.{length, length-map}
use Rattle.lists.specs.Lists.{Mem, occurs, times, Nth, next, now}
use Rattle.lists.proofs.Lists.{all_mem, mem_map}
use Rattle.lists.proofs.Places.{nth_at, nth_mem, nth_same}
use Rattle.lists.proofs.Occurs.{mem_occurs, occurs_mem, occurs_once, times_yes}
use Rattle.polygon.specs.Polygon.{Edge, ◌—◌, Before}
use Rattle.polygon.specs.Order.{same?}
use Rattle.polygon.specs.Tree.{Tree, span}
use Rattle.polygon.proofs.Order.{one_way}
use Rattle.umbrella.specs.Plan.{Plan, levels, umbrellas, stems}
use Rattle.chart.specs.Places.{cols, rows}
use Rattle.polygon.specs.Edges.{edges}
use Rattle.chart.specs.Chart.{Stroke, level, upright, stroke_edge, stroke, layout, chart, Touching, True}
use Rattle.chart.proofs.Strokes.{StrokeSays, stroke_says, strokes_edges, upright_in}
use Rattle.chart.proofs.Rows.{OnRow, last_row, rows_known, rows_length}
use Rattle.chart.proofs.Flats.{flats}
use Rattle.chart.proofs.Umbrella.{PieceDrawn}
use Rattle.chart.proofs.Draw.{draws}
use Rattle.chart.proofs.Width.{width}
use Rattle.chart.proofs.EachEdge.{each_drawn}
use Rattle.polygon.proofs.Edges.{edges_in_lem, edges_ascending, edges_count}
use Rattle.chart.proofs.Truth.{truth, touching}

-- an element that stands once in a list stands at one place
nth_one : (e : Edge) {i j : ℕ} {l : List Edge} → occurs same? e l ≤ 1 → Nth e i l → Nth e j l → i ≡ j
unfolding occurs
nth_one e h (now a) (now b) = refl
nth_one e h (now {x = f} {l = k} a) (next b) = absurd (omega (arith, mem_occurs same? e (nth_mem b), times_yes (same? e f) a))
nth_one e h (next {x = f} {l = k} a) (now b) = absurd (omega (arith, mem_occurs same? e (nth_mem a), times_yes (same? e f) b))
nth_one e h (next {x = f} {l = k} a) (next b) = ap suc (nth_one e (omega arith) a b)

module _ {t : Tree} (p : Plan t) where
  abbrev us : List Edge
  us = cols p 0 (span t)

  abbrev fs : List Edge
  fs = flats p 0 (span t)

  -- the uprights, the level edges and the root edge are the edges
  counts : (e : Edge) → occurs same? e us + (occurs same? e fs + times (same? e (0 — span t))) ≡ occurs same? e (edges 0 t)
  counts e = each_drawn e p 0 (span t) (omega arith)

  level_edge : (e : Edge) → Mem e (edges 0 t) → (Mem e us → ⊥) → Mem e ((0 — span t) ∷ fs)
  unfolding occurs
  level_edge e m f = occurs_mem same? e ((0 — span t) ∷ fs) (go (dec_le 1 (occurs same? e us)))
    where
      go : Dec (1 ≤ occurs same? e us) → 1 ≤ times (same? e (0 — span t)) + occurs same? e fs
      go (yes h) = absurd (f (occurs_mem same? e us h))
      go (no h) = omega (arith, counts e, mem_occurs same? e m)

  upright_edge : (e : Edge) → Mem e us → Mem e (edges 0 t)
  upright_edge e m = occurs_mem same? e (edges 0 t) (omega (arith, counts e, mem_occurs same? e m))

  single : (e : Edge) → occurs same? e (edges 0 t) ≤ 1
  single e = occurs_once same? e Before (λ y b. one_way y y b b) (edges_ascending 0 t)

  once : (e : Edge) → occurs same? e us ≤ 1
  once e = omega (arith, counts e, single e)

  two : (e : Edge) → Mem e (edges 0 t) → e.0 ≢ e.1
  two e m h = let b = all_mem (edges_in_lem 0 t) m in omega arith

  drawn : PieceDrawn (span t) 0 (span t) (2 * levels p) (OnRow (span t) (rows p)) us fs
  drawn =
      draws p (OnRow (span t) (rows p)) 0 (span t) (omega arith) (omega arith, refl) (omega arith, sym (last_row (rows p) (span t) (rows_length p)))
      (rows_known (rows p) (span t) (rows_length p))

  pub chart_true : 2 ≤ span t → True (chart p)
  unfolding chart
  chart_true h = truth (span t) (levels p) (rows p) us fs (edges 0 t) (span t) h (omega arith) drawn level_edge two

  pub chart_touching : 2 ≤ span t → (e : Edge) → Mem (level e) (chart p).strokes → Touching (chart p) e
  unfolding chart
  chart_touching h = touching (span t) (levels p) (rows p) us fs (edges 0 t) (span t) h (omega arith) drawn level_edge two

  -- how many
  pub chart_size : ((chart p).n ≡ suc (span t)) × ((chart p).rows ≡ 2 * levels p + 1) × ((chart p).columns + 2 ≡ (chart p).n + umbrellas p + stems p)
  unfolding chart layout
  chart_size = (refl, refl, omega (arith, width p 0 (span t)))

  -- the strokes are those of the edges
  pub chart_edges : map stroke_edge (chart p).strokes ≡ edges 0 t
  unfolding chart layout
  chart_edges = strokes_edges us (edges 0 t)

  pub chart_strokes : length (chart p).strokes + 3 ≡ 2 * (chart p).n
  unfolding chart layout
  chart_strokes = omega (arith, length-map (edges 0 t) (stroke 0 us), edges_count 0 t)

  -- an edge that is a column's upright has an upright stroke there, a level edge or the root edge a level one
  pub upright_stroke : (e : Edge) (j : ℕ) → Nth e j us → Mem (upright e j) (chart p).strokes
  unfolding chart layout
  upright_stroke e j n = subst (λ (s : Stroke). Mem s (map (stroke 0 us) (edges 0 t))) (go (stroke_says 0 us e)) (mem_map (stroke 0 us) (upright_edge e (nth_mem n)))
    where
      go : StrokeSays 0 us e (stroke 0 us e) → stroke 0 us e ≡ upright e j
      go (inl c) = absurd (c.1 (nth_mem n))
      go (inr c) = c.1 ∙ ap (upright e) (let q : c.0 ≡ j = nth_one e (once e) c.2 n in omega arith)

  pub level_stroke : (e : Edge) → Mem e ((0 — span t) ∷ fs) → Mem (level e) (chart p).strokes
  unfolding chart layout occurs
  level_stroke e m = subst (λ (s : Stroke). Mem s (map (stroke 0 us) (edges 0 t))) (go (stroke_says 0 us e)) (mem_map (stroke 0 us) (occurs_mem same? e (edges 0 t) (omega (arith, counts e, mem_occurs same? e m))))
    where
      go : StrokeSays 0 us e (stroke 0 us e) → stroke 0 us e ≡ level e
      go (inl c) = c.0
      go (inr c) = absurd (omega (arith, counts e, mem_occurs same? e m, mem_occurs same? e (nth_mem c.2), single e))

  -- each column is named by exactly one upright stroke
  pub chart_named : (j : ℕ) → j < (chart p).columns → (e : Edge) × Mem (upright e j) (chart p).strokes × ((f : Edge) → Mem (upright f j) (chart p).strokes → f ≡ e)
  unfolding chart layout
  chart_named j h = let (e, n) = nth_at us j h in (e, upright_stroke e j n, λ f m. nth_same (upright_in us (edges 0 t) f j m).1 n)
