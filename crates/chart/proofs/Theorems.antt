-- What this crate proves of charts, each theorem with its statement in plain words. The proofs are in the files beside this one.
-- To be read with specs/Places.antt, specs/Chart.antt and specs/Closing.antt.
use mathlib.Core.Path.{◌≡◌, refl, sym, ◌∙◌, ap, subst}
use mathlib.Core.Logic.{◌↔◌}
use mathlib.Core.List.{List}
use Prim.Native.Nat.{ℕ, ◌+◌, ◌*◌, ◌≤◌, ◌<◌}
use native.Mathlib.Omega.{arith}
use lib.ListN.{length}
use Rattle.lists.specs.Lists.{Mem}
use Rattle.polygon.specs.Polygon.{Edge, Ascending, Linked, Polygon, bare, Valid}
use Rattle.polygon.specs.Tree.{Tree, span, tree_of}
use Rattle.polygon.proofs.TreeTheorem.{TreeIs, tree_of_lem}
use Rattle.umbrella.specs.Plan.{Plan, levels, umbrellas, stems}
use Rattle.umbrella.specs.Best.{plan_of}
use Rattle.umbrella.specs.Border.{NothingHung}
use Rattle.chart.specs.Places.{cols}
use Rattle.chart.specs.Chart.{upright, level, Chart, chart, closed, NoEmptyRow, chart_of, Touching, True, Shows}
use Rattle.chart.specs.Pieces.{RootBars, EveryPiece}
use Rattle.chart.specs.Bytes.{Fits}
use Rattle.chart.specs.Closing.{ClosesUp}
use Rattle.polygon.proofs.Edges.{edges_linked, edges_ascending}
use Rattle.chart.proofs.Charts.{chart_true, chart_touching, chart_size, chart_edges, chart_strokes, chart_named}
use Rattle.chart.proofs.Closing.{closing, closed_true, closed_shows, closed_no_empty, closed_rows_most, closed_touching}
use Rattle.chart.proofs.ClosedPlan.{closed_plan_rows}
use Rattle.chart.proofs.Rungs.{rows_least}
use Rattle.chart.proofs.NoStem.{rows_no_stem, nothing_hung, one_umbrella, triangle_flat}
use Rattle.chart.proofs.Fits.{chart_fits}
use Rattle.chart.proofs.Pieces.{piece_bars, closed_piece_bars}

-- Closing up any chart keeps it true and what it shows, its columns, strokes and length; it leaves no empty row and keeps the order of the bars' rows; and it does nothing where no row is empty.
pub closes_up : (c : Chart) → ClosesUp c
closes_up c = closing c

-- The chart of every plan of every piece that is not a side is true.
pub plan_chart_true : {t : Tree} (p : Plan t) → 2 ≤ span t → True (chart p)
plan_chart_true p h = chart_true p h

-- In it every piece, the whole and each hung one that is not empty, has its root corners' bars as document 01 says: not reversed, the lower corner's bar reaches the piece's first column and the higher
-- corner's its last; reversed, the other way round; and the two bars meet side by side.
pub plan_piece_bars : {t : Tree} (p : Plan t) → 2 ≤ span t → EveryPiece (λ s q u v. RootBars (chart p) (cols q u v) u v) p 0 (span t)
plan_piece_bars p h = piece_bars p h

-- The chart of a part does not depend on its angles.
pub chart_bare : (p : Polygon) → chart_of (bare p) ≡ chart_of p
unfolding chart_of
chart_bare p = refl

-- The chart of a valid polygon is that of its plan drawn, closed up.
module _ (p : Polygon) (v : Valid p) where
  T : TreeIs p.n p.ds (tree_of p.n p.ds)
  T = tree_of_lem p.n p.ds v.triangulated

  wide : 2 ≤ span (tree_of p.n p.ds)
  wide = omega (arith, T.size, v.least)

  -- Before it is closed up it is true, and shows exactly the polygon's sides and diagonals, each once: 2n - 3 strokes.
  pub placed_is_true : True (chart (plan_of p))
  placed_is_true = chart_true (plan_of p) wide

  pub placed_shows : Shows (chart (plan_of p)) p
  placed_shows = record {
    corners = (chart_size (plan_of p)).0 ∙ T.size;
    edges = subst (λ (es : List Edge). (e : Edge) → Mem e es ↔ Linked p.n p.ds e.0 e.1) (sym (chart_edges (plan_of p))) (edges_linked p.n p.ds (tree_of p.n p.ds) v.least T);
    ascending = subst Ascending (sym (chart_edges (plan_of p))) (edges_ascending 0 (tree_of p.n p.ds));
  }

  -- So it is closed up.
  pub chart_is_true : True (chart_of p)
  unfolding chart_of
  chart_is_true = closed_true (chart (plan_of p)) placed_is_true

  pub chart_shows : Shows (chart_of p) p
  unfolding chart_of
  chart_shows = closed_shows (chart (plan_of p)) p placed_shows

  pub chart_stroke_count : length (chart_of p).strokes + 3 ≡ 2 * p.n
  unfolding chart_of closed
  chart_stroke_count = omega (arith, chart_strokes (plan_of p), (chart_size (plan_of p)).0, T.size)

  -- It has at most two rows a level and one more.
  pub chart_rows_most : (chart_of p).rows ≤ 2 * levels (plan_of p) + 1
  unfolding chart_of
  chart_rows_most = omega (arith, closed_rows_most (chart (plan_of p)), (chart_size (plan_of p)).1)

  -- And at least a row a level and one more.
  pub chart_rows_least : levels (plan_of p) + 1 ≤ (chart_of p).rows
  unfolding chart_of
  chart_rows_least = omega (arith, closed_plan_rows (plan_of p), rows_least (plan_of p))

  -- It has exactly that many if there is no stem in it.
  pub chart_rows_no_stem : stems (plan_of p) ≡ 0 → (chart_of p).rows ≡ levels (plan_of p) + 1
  unfolding chart_of
  chart_rows_no_stem s = omega (arith, closed_plan_rows (plan_of p), rows_no_stem (plan_of p) s)

  -- So it has two if its umbrella has no stem and nothing hung.
  pub chart_two_rows : stems (plan_of p) ≡ 0 → NothingHung (plan_of p) → (chart_of p).rows ≡ 2
  chart_two_rows s h = omega (arith, chart_rows_no_stem s, nothing_hung (plan_of p) wide s h)

  -- And so by the counts that the log line tells: one umbrella in all, and no stem.
  pub chart_one_umbrella : umbrellas (plan_of p) ≡ 1 → stems (plan_of p) ≡ 0 → (chart_of p).rows ≡ 2
  chart_one_umbrella u s = omega (arith, chart_rows_no_stem s, one_umbrella (plan_of p) u)

  -- So a triangle has two.
  pub chart_triangle : p.n ≡ 3 → (chart_of p).rows ≡ 2
  chart_triangle h = let (u, s) = triangle_flat (plan_of p) (omega (arith, T.size)) in chart_one_umbrella u s

  -- Each of its rows carries a bar.
  pub chart_no_empty_row : NoEmptyRow (chart_of p)
  unfolding chart_of
  chart_no_empty_row = closed_no_empty (chart (plan_of p))

  -- It has n - 2 + umbrellas + stems columns.
  pub chart_columns : (chart_of p).columns + 2 ≡ p.n + umbrellas (plan_of p) + stems (plan_of p)
  unfolding chart_of closed
  chart_columns = (chart_size (plan_of p)).2 ∙ ap (λ (x : ℕ). x + umbrellas (plan_of p) + stems (plan_of p)) ((chart_size (plan_of p)).0 ∙ T.size)

  -- Each column from 0 to columns - 1 is named by exactly one upright stroke.
  pub chart_column_named : (j : ℕ) → j < (chart_of p).columns → (e : Edge) × Mem (upright e j) (chart_of p).strokes × ((f : Edge) → Mem (upright f j) (chart_of p).strokes → f ≡ e)
  unfolding chart_of closed
  chart_column_named = chart_named (plan_of p)

  -- A level stroke is between bars in touching columns.
  pub chart_level_touching : (e : Edge) → Mem (level e) (chart_of p).strokes → Touching (chart_of p) e
  unfolding chart_of closed
  chart_level_touching e m = closed_touching (chart (plan_of p)) e (chart_touching (plan_of p) wide e m)

  -- Every piece of it has its root corners' bars as document 01 says.
  pub chart_piece_bars : EveryPiece (λ s q x y. RootBars (chart_of p) (cols q x y) x y) (plan_of p) 0 (span (tree_of p.n p.ds))
  unfolding chart_of
  chart_piece_bars = closed_piece_bars (plan_of p) wide

  -- Every number of it fits two bytes.
  pub chart_number_fits : Fits (chart_of p)
  unfolding chart_of
  chart_number_fits = chart_fits (plan_of p) wide (omega (arith, T.size, v.most))
