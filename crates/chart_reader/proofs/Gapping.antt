-- The gaps of the level strokes, put one after another behind their left bars.
use mathlib.Core.Path.{◌≡◌, refl, ap, sym, subst, ◌∙◌}
use mathlib.Core.Logic.{◌⊎◌, inl, inr}
use mathlib.Core.List.{List}
use Prim.Native.Nat.{ℕ, ◌+◌, ◌*◌, ◌/◌, ◌%◌, ◌≤◌, ◌<◌}
use native.Mathlib.Decide.{dec_lt, ℕ_discrete}
use native.Mathlib.Omega.{arith}
use lib.ListN.{length, get_or, set, length-set}
use Rattle.lists.specs.Lists.{All, Mem}
use Rattle.lists.proofs.Lists.{all_mem, all_of}
use Rattle.lists.proofs.Places.{below_at, stored}
use Rattle.polygon.specs.Polygon.{Edge}
use Rattle.chart.specs.Chart.{Bar, Stroke, upright, level, stroke_edge, Chart}
use Rattle.nearest.specs.declared.Cell.{Cell}
use Rattle.nearest.specs.Cells.{cell, Inside, HasCell}
use Rattle.nearest.specs.BarRule.{BarRule}
use Rattle.nearest.specs.Order.{address, end_of, span_at, Cut, InOrder, Ordered}
use Rattle.chart_reader.specs.Rules.{ends, Named, StrokeRule, BarsFit}
use Rattle.chart_reader.specs.Gaps.{InGap, Gapped, GapPut, GapAt, GapsIn}
use Rattle.chart_reader.proofs.Truth.{apart_of}

-- in a chart that keeps the rules of bars and strokes the two cells of a level stroke are on one row, the first left of the last
module _ (c : Chart) (B : BarRule c) (S : StrokeRule c) where
  pub gapped_at : (t : Stroke) → Mem t c.strokes → Gapped c t
  unfolding stroke_edge
  gapped_at (upright e j) m = tt
  gapped_at (level e) m =
      let k = all_mem S.0 m in
      let r = (all_mem S.2 m).0 in
      let X = below_at B.0 e.0 (omega arith) in
      let Y = below_at B.0 e.1 k.1 in
      (r, elim (apart_of c B e.0 e.1 (omega arith) k.1 (omega arith) r) [ inl p ↦ omega (arith, p) | inr p ↦ omega (arith, p) ])

  pub gapped : All (Gapped c) c.strokes
  gapped = all_of c.strokes gapped_at

-- a bar of the chart in its place
record Placed (b : Bar) (starts ends : List ℕ) (n i : ℕ) : Type 0 where
  pub within : i < n
  pub start : get_or starts i 0 ≡ b.row * 65536 + b.left
  pub end : get_or ends i 0 ≡ b.row * 65536 + b.right
  pub left_small : b.left < 65536

-- numbers of one row, taken apart
in_row : (s e r i j : ℕ) → s / 65536 ≡ e / 65536 → s / 65536 ≡ r → s % 65536 ≡ i → e % 65536 ≡ j → (s ≡ r * 65536 + i) × (e ≡ r * 65536 + j) × (i < 65536)
in_row s e r i j h hr hi hj = (omega arith, omega arith, omega arith)

between_row : (r a b s e : ℕ) → b < 65536 → r * 65536 + a < s → s ≤ e → e < r * 65536 + b → s / 65536 ≡ e / 65536 → (s / 65536 ≡ r) × (a < s % 65536) × (s % 65536 < b) × (s % 65536 ≤ e % 65536)
between_row r a b s e hb h k l m = (omega arith, omega arith, omega arith, omega arith)

row_cell : (r a b x : ℕ) → b < 65536 → r * 65536 + a < x → x < r * 65536 + b → (a < x % 65536) × (x % 65536 < b) × (r * 65536 + x % 65536 ≡ x)
row_cell r a b x hb h k = (omega arith, omega arith, omega arith)

module _ (c : Chart) (n : ℕ) (starts es corners : List ℕ) (O : Ordered c.bar n starts es corners) where
  placed : (x : ℕ) → x < n → (i : ℕ) × Placed (c.bar x) starts es n i
  placed x h =
      let (i, k, e) = O.place x h in
      let is : span_at starts es i ≡ c.bar x = O.held i k ∙ ap c.bar e in
      let f = in_row (get_or starts i 0) (get_or es i 0) (c.bar x).row (c.bar x).left (c.bar x).right (O.order.row i (omega (arith, O.count))) (ap (λ (b : Bar). b.row) is) (ap (λ (b : Bar). b.left) is) (ap (λ (b : Bar). b.right) is) in
      (i, record { within = k; start = f.0; end = f.1; left_small = f.2 })

  pub end_found : (x : ℕ) → x < n → {a r : ℕ} → a ≤ end_of (c.bar x) → Cut es a r → r < n
  end_found x h {a} {r} k C =
      let (i, P) = placed x h in
      elim (dec_lt i r) [ yes p ↦ absurd (omega (arith, C.under i p, P.end)) | no p ↦ omega (arith, P.within) ]

  -- between the end of one bar and the start of another of its row stands no other bar, if no bar stands between the cells
  module _ (B : BarRule c) (whole : n ≡ c.n) (e : Edge) (F : BarsFit c (level e)) (G : Gapped c (level e)) where
    abbrev first : Cell
    first = (ends c (level e)).0

    abbrev last : Cell
    last = (ends c (level e)).1

    pub record Facing : Type 0 where
      pub i : ℕ
      pub j : ℕ
      pub from : get_or es i 0 ≡ address first
      pub to : get_or starts j 0 ≡ address last
      pub here : i < n
      pub within : j < n
      pub small : last.column < 65536

    module _ (N : Facing) where
      ahead : N.i < N.j
      ahead = go (dec_lt N.i N.j) (dec_lt N.j N.i)
        where
          go : Dec (N.i < N.j) → Dec (N.j < N.i) → N.i < N.j
          go (yes p) q = p
          go (no p) (yes q) = absurd (omega (arith, O.order.apart N.j N.i q (omega (arith, O.count, N.here)), O.whole N.j (omega (arith, O.count, N.within)), O.whole N.i (omega (arith, O.count, N.here)), N.from, N.to, G))
          go (no p) (no q) = let is : N.i ≡ N.j = omega arith in absurd (omega (arith, O.whole N.i (omega (arith, O.count, N.here)), N.from, rw (← is) at N.to, G))

      nothing : (k : ℕ) → N.i < k → k < N.j → ⊥
      nothing k h g =
          let here : k < length starts = omega (arith, O.count, N.within) in
          let x = O.order.apart N.i k h here in
          let y = O.order.apart k N.j g (omega (arith, O.count, N.within)) in
          let f = between_row first.row first.column last.column (get_or starts k 0) (get_or es k 0) N.small (omega (arith, x, N.from)) (O.whole k here) (omega (arith, y, N.to, G)) (O.order.row k here) in
          let d = cell first.row (get_or starts k 0 % 65536) in
          let has = subst (λ (b : Bar). HasCell b d) (O.held k (omega (arith, N.within))) (f.0, omega arith, f.3) in
          below_at F.1 (get_or corners k 0) (omega (arith, O.corner k (omega (arith, N.within)), whole)) (d, inl (refl, sym G.0, (omega (arith, f, G), omega (arith, f, G))), has)

    pub facing : e.0 < n → e.1 < n → (e.0 ≡ e.1 → ⊥) → Facing
    facing hx hy f = go (apart_of c B e.0 e.1 (rw whole at hx) (rw whole at hy) f F.0) (placed e.0 hx) (placed e.1 hy)
      where
        go : ((c.bar e.0).right < (c.bar e.1).left) ⊎ ((c.bar e.1).right < (c.bar e.0).left) → (i : ℕ) × Placed (c.bar e.0) starts es n i → (j : ℕ) × Placed (c.bar e.1) starts es n j → Facing
        go (inl p) (i, X) (j, Y) =
            let P = below_at B.0 e.0 (rw whole at hx) in
            let Q = below_at B.0 e.1 (rw whole at hy) in
            record { i = i; j = j; from = omega (arith, X.end, P, Q, p); to = omega (arith, Y.start, P, Q, p); here = X.within; within = Y.within; small = omega (arith, X.left_small, Y.left_small) }
        go (inr p) (i, X) (j, Y) =
            let P = below_at B.0 e.0 (rw whole at hx) in
            let Q = below_at B.0 e.1 (rw whole at hy) in
            record { i = j; j = i; from = omega (arith, Y.end, P, Q, p, F.0); to = omega (arith, X.start, P, Q, p, F.0); here = Y.within; within = X.within; small = omega (arith, X.left_small, Y.left_small) }

-- step by step: at first no gap has a cell; a stroke without a gap adds none
module _ (c : Chart) (t : ℕ → Stroke) (starts es : List ℕ) where
  pub gaps_none : InOrder starts es → (to : List ℕ) → length to ≡ length es → ((i : ℕ) → i < length es → get_or to i 0 ≡ get_or es i 0) → GapsIn c t 0 starts es to
  gaps_none O to size same = record {
    size = size;
    up = λ i h. omega (arith, same i h);
    row = λ i h. ap (λ (x : ℕ). x / 65536) (same i h);
    apart = λ i j h k. omega (arith, same i (omega arith), O.apart i j h (omega (arith, O.size)));
    sound = λ i a h g. absurd (omega (arith, same i h, g));
    full = λ m h. absurd (omega arith);
  }

  module _ (k : ℕ) (to : List ℕ) (G : GapsIn c t k starts es to) where
    -- the strokes before k, and stroke k
    up_to : {Q : ℕ → Type 0} → ((m : ℕ) → m < k → Q m) → Q k → (m : ℕ) → m < k + 1 → Q m
    up_to {Q} f q m h = go (dec_lt m k)
      where
        go : Dec (m < k) → Q m
        go (yes p) = f m p
        go (no p) = let e : m ≡ k = omega arith in subst Q (sym e) q

    pub gaps_same : ((d : Cell) → InGap c (t k) d → ⊥) → GapsIn c t (k + 1) starts es to
    gaps_same f = record {
      size = G.size;
      up = G.up;
      row = G.row;
      apart = G.apart;
      sound = λ i a h g. let w = G.sound i a h g in (w.0, w.1, omega (arith, w.2), w.3, w.4, w.5);
      full = up_to {Q = λ (m : ℕ). (d : Cell) → InGap c (t m) d → (i : ℕ) × (i < length es) × GapAt es to i (address d) × (d.column < 65536)} G.full (λ d g. absurd (f d g));
    }

    -- a stroke whose gap has cells adds them
    module _ (e : Edge) (is : t k ≡ level e) (M : Gapped c (level e)) (i₁ end : ℕ) where
      pub record Next : Type 0 where
        pub here : i₁ < length es
        pub from : get_or es i₁ 0 ≡ address (ends c (level e)).0
        pub to₁ : end + 1 ≡ address (ends c (level e)).1
        pub small : (ends c (level e)).1.column < 65536
        pub next : (j : ℕ) → i₁ < j → j < length es → end < get_or starts j 0
        pub old : get_or to i₁ 0 ≤ end

      module _ (N : Next) where
        at_place : (P : ℕ → Type 0) (i : ℕ) → (i ≡ i₁ → P end) → ((i ≡ i₁ → ⊥) → P (get_or to i 0)) → P (get_or (set to i₁ end) i 0)
        at_place P i f g = stored P to i₁ end i (omega (arith, G.size, N.here)) f g

        -- the cells of the gap, by their addresses
        cell_of : (a : ℕ) → get_or es i₁ 0 < a → a ≤ end → (d : Cell) × Inside (ends c (level e)) d × (address d ≡ a) × (d.column < 65536)
        cell_of a h l =
            let f = row_cell (ends c (level e)).0.row (ends c (level e)).0.column (ends c (level e)).1.column a N.small (omega (arith, N.from)) (omega (arith, N.to₁, M)) in
            (cell (ends c (level e)).0.row (a % 65536), inl (refl, sym M.0, (omega (arith, f, M), omega (arith, f, M))), f.2, omega arith)

        of_cell : (d : Cell) → Inside (ends c (level e)) d → GapAt es (set to i₁ end) i₁ (address d) × (d.column < 65536)
        of_cell d (inl w) = ((omega (arith, N.from, w, M), at_place (λ (x : ℕ). address d ≤ x) i₁ (λ h. omega (arith, N.to₁, w, M)) (λ f. absurd (f refl))), omega (arith, N.small, w, M))
        of_cell d (inr w) = absurd (omega (arith, w, M))

        pub gaps_put : GapsIn c t (k + 1) starts es (set to i₁ end)
        gaps_put = record {
          size = length-set to i₁ end ∙ G.size;
          up = λ i h. at_place (λ (x : ℕ). get_or es i 0 ≤ x) i (λ q. rw q (omega (arith, N.from, N.to₁, M))) (λ f. G.up i h);
          row = λ i h. at_place (λ (x : ℕ). x / 65536 ≡ get_or es i 0 / 65536) i (λ q. rw q (omega (arith, N.from, N.to₁, N.small, M))) (λ f. G.row i h);
          apart = λ i j h l. at_place (λ (x : ℕ). x < get_or starts j 0) i (λ q. N.next j (rw q at h) l) (λ f. G.apart i j h l);
          sound = λ i a h g. sounds i a h (ℕ_discrete i i₁) g;
          full = up_to {Q = λ (m : ℕ). (d : Cell) → InGap c (t m) d → (i : ℕ) × (i < length es) × GapAt es (set to i₁ end) i (address d) × (d.column < 65536)}
              (λ m h d g. let w = G.full m h d g in (w.0, w.1, (w.2.0, at_place (λ (x : ℕ). address d ≤ x) w.0 (λ q. omega (arith, N.old, rw q at w.2.1)) (λ f. w.2.1)), w.3))
              (λ d g. let w = of_cell d (subst (λ (s : Stroke). InGap c s d) is g) in (i₁, N.here, w.0, w.1));
        }
          where
            sounds : (i a : ℕ) → i < length es → Dec (i ≡ i₁) → GapAt es (set to i₁ end) i a → (m : ℕ) × (d : Cell) × (m < k + 1) × InGap c (t m) d × (address d ≡ a) × (d.column < 65536)
            sounds i a h (yes q) g =
                let w = cell_of a (rw q at g.0) (omega (arith, g.1, at_place (λ (x : ℕ). (x ≡ end)) i (λ r. refl) (λ f. absurd (f q)))) in
                (k, w.0, omega arith, subst (λ (s : Stroke). InGap c s w.0) (sym is) w.1, w.2, w.3)
            sounds i a h (no q) g =
                let w = G.sound i a h (g.0, omega (arith, g.1, at_place (λ (x : ℕ). (x ≡ get_or to i 0)) i (λ r. absurd (q r)) (λ f. refl))) in
                (w.0, w.1, omega (arith, w.2), w.3, w.4, w.5)

-- what is put for a level stroke of the chart
module _ (c : Chart) (n : ℕ) (starts es corners : List ℕ) (O : Ordered c.bar n starts es corners) (B : BarRule c) (whole : n ≡ c.n) where
  later : (i j : ℕ) → i < j → j < n → get_or starts i 0 < get_or starts j 0
  later i j h k = omega (arith, O.order.apart i j h (omega (arith, O.count)), O.whole i (omega (arith, O.count)))

  -- an end is found in its own place
  own_place : (x r i : ℕ) → Cut es x r → i < n → get_or es i 0 ≡ x → r ≡ i
  own_place x r i C h e = go (dec_lt r i) (dec_lt i r)
    where
      go : Dec (r < i) → Dec (i < r) → r ≡ i
      go (yes p) q = absurd (omega (arith, C.rest r (omega arith) (omega (arith, O.count, O.order.size)), O.order.apart r i p (omega (arith, O.count)), O.whole i (omega (arith, O.count))))
      go (no p) (yes q) = absurd (omega (arith, C.under i q))
      go (no p) (no q) = omega arith

  module _ (t : ℕ → Stroke) (k : ℕ) (to : List ℕ) (G : GapsIn c t k starts es to) (s : Stroke) (is : s ≡ t k) (F : BarsFit c s) (N : Named c s) (M : Gapped c s) where
    pub gap_next : (to₁ : List ℕ) → GapPut c s es to to₁ → GapsIn c t (k + 1) starts es to₁
    unfolding stroke_edge
    gap_next to₁ P =
        let e = P.edge in
        let fit = subst (BarsFit c) P.flat F in
        let named = subst (Named c) P.flat N in
        let level_gap = subst (Gapped c) P.flat M in
        let D = facing c n starts es corners O B whole e fit level_gap (omega (arith, named, whole)) (omega (arith, named, whole)) (λ q. omega (arith, named, q)) in
        let at_i : P.at ≡ D.i = own_place (address (ends c (level e)).0) P.at D.i P.cut D.here D.from in
        let before = ahead c n starts es corners O B whole e fit level_gap D in
        let size : length es ≡ n = O.order.size ∙ O.count in
        let from_j : (j : ℕ) → D.i < j → j < length es → P.end < get_or starts j 0 = λ j h l. go P.end D.j j (omega (arith, P.before, D.to)) (omega (arith, size)) (dec_lt j D.j) (dec_lt D.j j) (nothing c n starts es corners O B whole e fit level_gap D j h) in
        rw (P.stored, at_i) (gaps_put c t starts es k to G e (sym is ∙ P.flat) level_gap D.i P.end (record {
          here = omega (arith, D.here, size);
          from = D.from;
          to₁ = P.before;
          small = D.small;
          next = from_j;
          old = omega (arith, G.apart D.i D.j before (omega (arith, D.within, size)), P.before, D.to);
        }))
      where
        go : (x j₁ j : ℕ) → x + 1 ≡ get_or starts j₁ 0 → j < n → Dec (j < j₁) → Dec (j₁ < j) → (j < j₁ → ⊥) → x < get_or starts j 0
        go x j₁ j h l (yes p) q f = absurd (f p)
        go x j₁ j h l (no p) (yes q) f = omega (arith, later j₁ j q l)
        go x j₁ j h l (no p) (no q) f = let q : j ≡ j₁ = omega arith in rw q (omega arith)
