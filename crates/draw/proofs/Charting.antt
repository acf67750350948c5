-- From the edges, columns and rows of the plan drawn to its chart.
use mathlib.Core.Path.{◌≡◌, ap, sym, ◌∙◌}
use mathlib.Core.List.{List, ◌++◌, map}
use mathlib.Core.Option.{Option}
use Prim.Native.Nat.{ℕ, ◌+◌, ◌*◌, ◌-◌, ◌≤◌, ◌<◌}
use native.Mathlib.Omega.{arith}
use lib.ListN.{length, take, drop, get_or, length-append, length-map, length-drop}
use lib.Seq.{get_or-take, length-take-le, take_at}
use Rattle.lists.specs.Lists.{All}
use Rattle.lists.proofs.Lists.{all_imp}
use Rattle.polygon.specs.Edges.{edges}
use Rattle.polygon.specs.Polygon.{Edge, Polygon}
use Rattle.polygon.specs.Tree.{Tree, span, tree_of}
use Rattle.polygon.proofs.Edges.{edges_ascending}
use Rattle.codec.specs.Answer.{refusal, write, written}
use Rattle.umbrella.specs.Plan.{Plan, levels}
use Rattle.umbrella.specs.Best.{best}
use Rattle.umbrella.proofs.Theorems.{computed_has}
use Rattle.umbrella.proofs.Wide.{nine}
use Rattle.tree.specs.declared.Root.{Root}
use Rattle.tree.proofs.Whole.{keyed}
use Rattle.levels.specs.Kept.{Filled}
use Rattle.chart.specs.Places.{cols, rows}
use Rattle.chart.specs.Chart.{Chart, corner_rows, layout, chart, closed_row, closed, chart_of}
use Rattle.chart.specs.Bytes.{bytes_of}
use Rattle.chart.proofs.Width.{width}
use Rattle.chart.proofs.Closing.{closed_le, corners_shut}
use Rattle.chart.proofs.ClosedPlan.{plan_rows_inside, closed_plan, closed_plan_rows}
use Rattle.chart_writer.specs.Tables.{Sizes, Edges, Among, Laid}
use Rattle.drawing.specs.Located.{Located}
use Rattle.drawing.specs.declared.Size.{Size}
use Rattle.drawing.proofs.Whole.{sized}
use Rattle.std.specs.Prelude.{Option as Given, Some, None}
use Rattle.codec.specs.declared.refusal.Refusal.{Refusal}
use Rattle.codec.specs.Numbered.{number_of}
use Rattle.sheet.specs.declared.Head.{Head}
use Rattle.plan.specs.declared.Totals.{Totals}
use Rattle.plan.specs.Counts.{totals_of}
use Rattle.draw.specs.Told.{told}
use Rattle.draw.specs.Printed.{facts_of}
use Rattle.draw.specs.Charted.{stopped, unless, unless_stopped}

-- a chart of h rows and n bars that was stopped, and one that was not
module _ (limit : Option ℕ) (room : ℕ) (c : Chart) (out : List ℕ) {r : Given Refusal} {h n : ℕ} (e : r ≡ stopped limit h n room) (rows_are : h ≡ c.rows) (bars_are : n ≡ c.n) where
  by_refusal : unless_stopped limit room c ≡ unless r (bytes_of c)
  unfolding unless_stopped
  by_refusal = rw (e, rows_are, bars_are)

  pub stopped_by : (why : Refusal) → r ≡ Some why → refusal (number_of why) out ≡ written (unless_stopped limit room c) out
  unfolding unless written
  stopped_by why i = rw (by_refusal, i)

  pub not_stopped : r ≡ None → written (write (bytes_of c)) out ≡ written (unless_stopped limit room c) out
  unfolding unless
  not_stopped i = rw (by_refusal, i)

-- the chart of a part, from its corners and diagonals as the code holds them
pub chart_held : (p : Polygon) {n : ℕ} {ds : List Edge} → n ≡ p.n → ds ≡ p.ds → closed (chart (best (tree_of n ds))) ≡ chart_of p
unfolding chart_of
chart_held p e f = rw (e, f)

-- and what the line tells of it
pub facts_held : (p : Polygon) (h : Head) {ds : List Edge} {c : Totals} {high wide : ℕ} → h.n ≡ p.n → ds ≡ p.ds → c ≡ totals_of (best (tree_of h.n ds))
    → high ≡ (closed (chart (best (tree_of h.n ds)))).rows → wide ≡ (closed (chart (best (tree_of h.n ds)))).columns → told h c high wide ≡ facts_of p
unfolding chart_of
facts_held p h e f counts high_is wide_is = rw (counts, high_is, wide_is, e, f)

-- some columns
some_columns : {t : Tree} (p : Plan t) → 2 ≤ span t → 1 ≤ length (cols p 0 (span t))
some_columns {t} p h = omega (arith, width p 0 (span t))

-- a part drawn: what its writer asks for, and the chart that comes of it
module _ {n : ℕ} {t : Tree} {tr ds : List ℕ} {p : Root} (F : Filled n t tr ds p) (least : 3 ≤ n) {columns ranks : List ℕ} {s : Size} (P : Located n t tr columns ranks s) where
  last : n - 1 ≡ span t
  last = omega (arith, sized F)

  pub placed_sizes : (1 ≤ s.columns) × (s.columns < 2048)
  placed_sizes =
      let z : 1 ≤ length (cols (best t) 0 (n - 1)) = rw last (some_columns (best t) (omega (arith, last))) in
      omega (arith, z, P.width, P.few, sized F)

  pub count : length (take s.columns columns) ≡ s.columns
  count = length-take-le s.columns columns (omega (arith, placed_sizes, P.columns_kept))

  pub placed_edges : Edges (2 * n - 3) tr
  placed_edges = record { keyed = keyed t tr (omega (arith, sized F)) (omega (arith, sized F)) (omega (arith, P.tree_kept, sized F)) P.listed; ascending = rw P.listed (edges_ascending 0 t) }

  pub placed_among : Among (2 * n - 3) (take s.columns columns)
  placed_among j h = rw (get_or-take s.columns columns j 0 (omega (arith, count))) (P.among j (omega (arith, count)))

  -- the rows are few, and the bars lie on them
  pub placed_few : s.rows < 20
  placed_few = omega (arith, P.height, computed_has t, nine t (omega (arith, sized F)))

  pub placed_inside : All (λ r. r < s.rows) (take n ranks)
  placed_inside = rw P.corners (all_imp (λ r k. omega (arith, P.height)) (plan_rows_inside (best t) (omega (arith, last))))

  pub front_size : length (take n ranks) ≡ n
  front_size = length-take-le n ranks (omega (arith, P.ranks_kept, sized F))

  -- and closed up
  module _ (front : List ℕ) {h : ℕ} (e : front ≡ map (closed_row (take n ranks)) (take n ranks)) (k : h ≡ closed_row (take n ranks) s.rows) where
    -- the rows of all corners then
    abbrev after : List ℕ
    after = front ++ drop n ranks

    shut_size : length front ≡ n
    shut_size = ap length e ∙ (length-map (take n ranks) (closed_row (take n ranks)) ∙ front_size)

    pub after_size : length after ≡ 1024
    after_size = omega (arith, length-append front (drop n ranks), length-drop n ranks, shut_size, P.ranks_kept, sized F)

    abbrev shut : ℕ → ℕ
    shut = closed_row (corner_rows (rows (best t)))

    height : h ≡ shut (2 * levels (best t) + 1)
    height = let q : s.rows ≡ 2 * levels (best t) + 1 = omega (arith, P.height) in k ∙ rw (P.corners, q)

    pub placed_asks : Sizes n h tr (take s.columns columns) after
    placed_asks = record {
      least = least;
      most = (sized F).1;
      tall = omega (arith, k, closed_le (take n ranks) s.rows, placed_few);
      edges = omega (arith, P.tree_kept, sized F);
      corners = omega (arith, after_size, sized F);
      some = omega (arith, count, placed_sizes);
      few = omega (arith, count, placed_sizes);
    }

    pub placed_laid : Laid n tr (take s.columns columns) after (map shut (rows (best t))) (cols (best t) 0 (n - 1)) (edges 0 t)
    placed_laid = record {
      corners = λ x i. sym (get_or-take n after x 0 i) ∙ ap (λ (l : List ℕ). get_or l x 0) (take_at front (drop n ranks) n shut_size ∙ (rw P.corners at e ∙ corners_shut (rows (best t))));
      uprights = sym P.uprights;
      edges = sym P.listed;
    }

    pub placed_chart : bytes_of (layout (n - 1) h (map shut (rows (best t))) (cols (best t) 0 (n - 1)) (edges 0 t)) ≡ bytes_of (closed (chart (best t)))
    placed_chart = rw (last, height, closed_plan (best t))

    pub placed_rows : h ≡ (closed (chart (best t))).rows
    placed_rows = height ∙ sym (closed_plan_rows (best t))

  pub placed_corners : n ≡ (closed (chart (best t))).n
  unfolding closed chart layout
  placed_corners = omega (arith, last, least)

  pub placed_columns : s.columns ≡ (closed (chart (best t))).columns
  unfolding closed chart layout
  placed_columns = P.width ∙ rw last
