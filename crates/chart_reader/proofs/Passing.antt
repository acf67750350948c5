-- No upright passes through a gap exactly if none of the gaps, as spans, stands between an upright's two cells.
use mathlib.Core.Path.{◌≡◌, refl, ap, sym, subst, ◌∙◌}
use Rattle.std.specs.Prelude.{Some, None}
use mathlib.Core.List.{List}
use Prim.Native.Nat.{ℕ, ◌+◌, ◌-◌, ◌/◌, ◌%◌, ◌≤◌, ◌<◌}
use native.Mathlib.Omega.{arith}
use lib.ListN.{length, get_or, set}
use Rattle.lists.specs.Lists.{All}
use Rattle.lists.proofs.Lists.{all_imp}
use Rattle.lists.proofs.Places.{below_at}
use Rattle.chart.specs.declared.Stroke as code
use Rattle.polygon.specs.Polygon.{◌—◌}
use Rattle.chart.specs.Chart.{Bar, Stroke, upright, level, Chart}
use Rattle.chart.specs.Decode.{chart_in, stroke_at, stroke_of}
use Rattle.nearest.specs.declared.Cell.{Cell}
use Rattle.nearest.specs.Cells.{HasCell, Inside}
use Rattle.nearest.specs.BarRule.{BarRule}
use Rattle.nearest.specs.Nearest.{none, bar, nearest}
use Rattle.nearest.specs.Order.{address, end_of, span_at, Cut, InOrder, Whole, Ordered}
use Rattle.nearest.proofs.Line.{of_nearest, of_none}
use Rattle.nearest.proofs.Spans.{has_address, address_has}
use Rattle.chart_reader.specs.declared.Ends.{Ends}
use Rattle.chart_reader.specs.Rules.{ends, Passes, GapRule}
use Rattle.chart_reader.specs.Held.{StrokesFound, EndsOf}
use Rattle.chart_reader.specs.Gaps.{InGap, Clear, GapPut, GapAt, GapsIn}
use Rattle.chart_reader.proofs.Stroked.{strokes_all, strokes_at}

-- two cells with one address are the same
same_cell : (d f : Cell) → d.column < 65536 → f.column < 65536 → address d ≡ address f → d ≡ f
same_cell d f h k e = λ i. record { row = row i; column = column i }
  where
    row : d.row ≡ f.row
    row = omega (arith, e)

    column : d.column ≡ f.column
    column = omega (arith, e)

module _ (c : Chart) (t : ℕ → Stroke) (k : ℕ) (starts es from to : List ℕ) (G : GapsIn c t k starts es to) (size : length from ≡ length es)
    (froms : (i : ℕ) → i < length es → get_or from i 0 ≡ get_or es i 0 + 1) (within : (i : ℕ) → i < length es → get_or es i 0 % 65536 < 65535) where
  one_row : (i : ℕ) → i < length es → get_or from i 0 / 65536 ≡ get_or to i 0 / 65536
  one_row i h = omega (arith, froms i h, within i h, G.row i h)

  pub gaps_ordered : length starts ≡ length es → Whole starts es → InOrder from to
  gaps_ordered same whole = record {
    size = G.size ∙ sym size;
    row = λ i h. one_row i (omega (arith, size));
    span = λ i h. omega (arith, froms i (omega (arith, size)), G.up i (omega (arith, size)));
    apart = λ i j h l. omega (arith, froms j (omega (arith, size)), G.apart i j h (omega (arith, size)), whole j (omega (arith, size, same)));
  }

  has_gap : (i : ℕ) → i < length es → (d : Cell) → HasCell (span_at from to i) d → GapAt es to i (address d) × (d.column < 65536)
  has_gap i h d w = let f = has_address (get_or from i 0) (get_or to i 0) d.row d.column (one_row i h) w in ((omega (arith, f, froms i h), f.1), omega (arith, w.2))

  gap_has : (i : ℕ) → i < length es → (d : Cell) → d.column < 65536 → GapAt es to i (address d) → HasCell (span_at from to i) d
  gap_has i h d s w = address_has (get_or from i 0) (get_or to i 0) d.row d.column (one_row i h) s (omega (arith, froms i h, w)) w.1

  -- an upright is clear exactly if it passes through none of the gaps
  pub clear_passes : (s : Stroke) → Clear c from to s → (m : ℕ) → m < k → ¬ Passes c s (t m)
  clear_passes (level e) f m h = λ w. w
  clear_passes (upright e j) f m h = go (t m) (G.full m h)
    where
      go : (u : Stroke) → ((d : Cell) → InGap c u d → (i : ℕ) × (i < length es) × GapAt es to i (address d) × (d.column < 65536)) → ¬ Passes c (upright e j) u
      go (upright g l) full = λ w. w
      go (level g) full = λ w. let x = full w.0 w.2 in f x.0 (omega (arith, x.1, size)) (w.0, w.1, gap_has x.0 x.1 w.0 x.3 x.2)

  pub passes_clear : (s : Stroke) → ((m : ℕ) → m < k → ¬ Passes c s (t m)) → Clear c from to s
  passes_clear (level e) f = tt
  passes_clear (upright e j) f = λ i h w.
      let g = has_gap i (omega (arith, size)) w.0 w.2 in
      let x = G.sound i (address w.0) (omega (arith, size)) g.0 in
      go (t x.0) (f x.0 x.2) (subst (InGap c (t x.0)) (same_cell x.1 w.0 x.5 g.1 x.4) x.3) w.1
    where
      go : {d : Cell} (u : Stroke) → ¬ Passes c (upright e j) u → InGap c u d → Inside (ends c (upright e j)) d → ⊥
      go {d} (level g) p n i = p (d, i, n)
      go (upright g l) p n i = n

-- no bar of a chart ends in the last column that two bytes can name
pub ends_within : (c : Chart) (n : ℕ) (starts es corners : List ℕ) → Ordered c.bar n starts es corners → BarRule c → n ≡ c.n → c.columns < 65536 → (i : ℕ) → i < length es → get_or es i 0 % 65536 < 65535
ends_within c n starts es corners O B count small i h =
    let here : i < n = omega (arith, O.order.size, O.count) in
    let L = below_at B.0 (get_or corners i 0) (rw count at (O.corner i here)) in
    omega (arith, ap (λ (b : Bar). b.right) (O.held i here), L)

-- so the address behind it is one of four bytes
pub ends_room : (c : Chart) (n : ℕ) (starts es corners : List ℕ) → Ordered c.bar n starts es corners → BarRule c → n ≡ c.n → c.rows < 65536 → c.columns < 65536 → (i : ℕ) → i < length es → get_or es i 0 + 1 < 4294967296
ends_room c n starts es corners O B count rows columns i h =
    let here : i < n = omega (arith, O.order.size, O.count) in
    let L = below_at B.0 (get_or corners i 0) (rw count at (O.corner i here)) in
    omega (arith, ap (λ (b : Bar). b.row) (O.held i here), O.order.row i (omega (arith, O.count)), L, ends_within c n starts es corners O B count columns i h)

-- the rule, by the places of the strokes
module _ (s : List ℕ) (n : ℕ) (at : List ℕ) (P : StrokesFound s n at) where
  abbrev strokes : ℕ → Stroke
  strokes k = stroke_at s (get_or at k 0)

  pub no_gaps : ((k : ℕ) → k < length at → (d : Cell) → InGap (chart_in s) (strokes k) d → ⊥) → GapRule (chart_in s)
  no_gaps f = strokes_all s n at P (λ j g. strokes_all s n at P (λ k h. go (strokes j) (strokes k) (f k h)))
    where
      go : (u t : Stroke) → ((d : Cell) → InGap (chart_in s) t d → ⊥) → ¬ Passes (chart_in s) u t
      go (level e) t f = λ w. w
      go (upright e j) (upright g l) f = λ w. w
      go (upright e j) (level g) f = λ w. f w.0 w.2

  module _ (starts es from to : List ℕ) (G : GapsIn (chart_in s) strokes (length at) starts es to) (size : length from ≡ length es)
      (froms : (i : ℕ) → i < length es → get_or from i 0 ≡ get_or es i 0 + 1) (within : (i : ℕ) → i < length es → get_or es i 0 % 65536 < 65535) where
    pub clear_rule : All (Clear (chart_in s) from to) (chart_in s).strokes → GapRule (chart_in s)
    clear_rule = all_imp (λ t f. strokes_all s n at P (clear_passes (chart_in s) strokes (length at) starts es from to G size froms within t f))

    pub rule_clear : GapRule (chart_in s) → All (Clear (chart_in s) from to) (chart_in s).strokes
    rule_clear = all_imp (λ t f. passes_clear (chart_in s) strokes (length at) starts es from to G size froms within t (strokes_at s n at P f))

module _ (c : Chart) (t : code.Stroke) {r : Ends} {j : ℕ} (u : t.column ≡ Some j) (E : EndsOf c t r) where
  cells : (r.first, r.last) ≡ ends c (upright (t.a — t.b) j)
  cells = rw u at E.same

  module _ (from to : List ℕ) where
    pub upright_clear : nearest (span_at from to) (length from) (r.first, r.last) ≡ none → Clear c from to (stroke_of t)
    upright_clear f = rw u (of_none (span_at from to) (length from) _ (rw cells at f))

    pub upright_met : (x : ℕ) → nearest (span_at from to) (length from) (r.first, r.last) ≡ bar x → Clear c from to (stroke_of t) → ⊥
    upright_met x f k =
        let N = of_nearest (span_at from to) (length from) _ x (rw cells at f) in
        let clear = subst (Clear c from to) is k in
        clear x N.corner (N.at, N.between, N.has)
      where
        is : stroke_of t ≡ upright (t.a — t.b) j
        is = rw u

module _ (c : Chart) (t : code.Stroke) {r : Ends} (l : t.column ≡ None) (E : EndsOf c t r) where
  flat : stroke_of t ≡ level (t.a — t.b)
  flat = rw l

  flat_cells : (r.first, r.last) ≡ ends c (level (t.a — t.b))
  flat_cells = E.same ∙ ap (ends c) flat

  -- the first cell lies at or before the end of the lower corner's bar
  pub first_before : address r.first ≤ end_of (c.bar t.a)
  first_before = subst (λ (e : Cell × Cell). address e.0 ≤ end_of (c.bar t.a)) (sym flat_cells) (omega arith)

  pub gap_put : r.first.column + 1 < r.last.column → (es to : List ℕ) (a b at : ℕ) → a ≡ address r.first → b ≡ address r.last → Cut es a at → GapPut c (stroke_of t) es to (set to at (b - 1))
  gap_put h es to a b at ea eb C = record {
    edge = t.a — t.b;
    flat = flat;
    wide = subst (λ (e : Cell × Cell). e.0.column + 1 < e.1.column) flat_cells h;
    at = at;
    cut = subst (λ (e : Cell × Cell). Cut es (address e.0) at) flat_cells (subst (λ (x : ℕ). Cut es x at) ea C);
    end = b - 1;
    before = subst (λ (e : Cell × Cell). b - 1 + 1 ≡ address e.1) flat_cells (omega arith);
    stored = refl;
  }
