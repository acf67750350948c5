-- A chart keeps the rules of bars, strokes and gaps exactly if it is true and its strokes ascend and name its corners.
use mathlib.Core.Path.{◌≡◌, refl, sym, ◌∙◌}
use mathlib.Core.Logic.{◌⊎◌, inl, inr, ◌≢◌}
use mathlib.Core.List.{map}
use Prim.Native.Nat.{ℕ, ◌<◌, min, max}
use native.Mathlib.Decide.{dec_lt}
use native.Mathlib.Omega.{arith}
use Rattle.lists.specs.Lists.{All, Mem}
use Rattle.lists.proofs.Lists.{all_mem, all_of}
use Rattle.lists.proofs.Places.{below_all, below_at, below_sorted_by, below_two}
use Rattle.polygon.specs.Polygon.{Edge, Ascending}
use Rattle.chart.specs.Chart.{Stroke, upright, level, stroke_edge, Chart, Gap, Between, True}
use Rattle.nearest.specs.declared.Cell.{Cell}
use Rattle.nearest.specs.Cells.{cell, Amid, Inside}
use Rattle.nearest.specs.BarRule.{Lies, Apart, BarRule}
use Rattle.chart_reader.specs.Rules.{Named, ends, BarsFit, StrokeRule, Passes, GapRule}

-- strictly between, said in two ways
amid_of : {a b x : ℕ} → Between a b x → Amid a b x
amid_of (inl h) = omega arith
amid_of (inr h) = omega arith

between_of : (a b x : ℕ) → Amid a b x → Between a b x
between_of a b x h = go (dec_lt a x)
  where
    go : Dec (a < x) → Between a b x
    go (yes p) = inl (omega arith)
    go (no p) = inr (omega arith)

module _ (c : Chart) where
  -- two bars of one row that share no cell
  module _ (x y : ℕ) (X : Lies c x) (Y : Lies c y) (same : (c.bar x).row ≡ (c.bar y).row) where
    sides_of : Apart c x y → ((c.bar x).right < (c.bar y).left) ⊎ ((c.bar y).right < (c.bar x).left)
    sides_of f = go (dec_lt (c.bar x).right (c.bar y).left) (dec_lt (c.bar y).right (c.bar x).left)
      where
        go : Dec ((c.bar x).right < (c.bar y).left) → Dec ((c.bar y).right < (c.bar x).left) → ((c.bar x).right < (c.bar y).left) ⊎ ((c.bar y).right < (c.bar x).left)
        go (yes p) q = inl p
        go (no p) (yes q) = inr q
        go (no p) (no q) = absurd (f (cell (c.bar x).row (max (c.bar x).left (c.bar y).left), omega arith, omega arith))

  -- between two bars, as `ends` has it
  amid_gap : (e : Edge) (j : ℕ) → Gap c e j → Amid (min (c.bar e.0).right (c.bar e.1).right) (max (c.bar e.0).left (c.bar e.1).left) j
  amid_gap e j (inl h) = omega arith
  amid_gap e j (inr h) = omega arith

  module _ (B : BarRule c) where
    pub apart_of : (x y : ℕ) → x < c.n → y < c.n → x ≢ y → (c.bar x).row ≡ (c.bar y).row → ((c.bar x).right < (c.bar y).left) ⊎ ((c.bar y).right < (c.bar x).left)
    apart_of x y h k f e = go (dec_lt x y)
      where
        go : Dec (x < y) → ((c.bar x).right < (c.bar y).left) ⊎ ((c.bar y).right < (c.bar x).left)
        go (yes p) = sides_of x y (below_at B.0 x h) (below_at B.0 y k) e (below_two c.n B.1 x y p k)
        go (no p) = elim (sides_of y x (below_at B.0 y k) (below_at B.0 x h) (sym e) (below_two c.n B.1 y x (omega arith) h)) [ inl q ↦ inr q | inr q ↦ inl q ]

    pub rules_true : StrokeRule c → GapRule c → True c
    unfolding stroke_edge
    rules_true S G = record {
      bars = below_at B.0;
      apart = apart_of;
      levels = λ e m.
          let N = all_mem S.0 m in
          let F = all_mem S.2 m in
          (omega arith, omega arith, F.0, λ z j h i k g. below_at F.1 z h (cell (c.bar e.0).row j, inl (refl, sym F.0, amid_gap e j g), (i, k.0, k.1)));
      uprights = λ e j m.
          let N = all_mem S.0 m in
          let F = all_mem S.2 m in
          (omega arith, omega arith, F.0.0, F.0.1, F.0.2, λ z h k b. below_at F.1 z h (cell (c.bar z).row j, inr (refl, refl, amid_of b), (refl, k.0, k.1)));
      clear = λ e f j m k g b. all_mem (all_mem G m) k (cell (c.bar f.0).row j, inr (refl, refl, amid_of b), inl (refl, sym (all_mem S.2 k).0, amid_gap f j g));
    }

  module _ (T : True c) (N : All (Named c) c.strokes) where
    true_bars : BarRule c
    true_bars = (below_all c.n T.bars, below_sorted_by c.n (λ x y h k w. elim (T.apart x y (omega arith) k (omega arith) (w.1.0 ∙ sym w.2.0)) [ inl p ↦ omega (arith, w.1, w.2, p) | inr p ↦ omega (arith, w.1, w.2, p) ]))

    -- the cells between the ends of a level stroke are those of its gap
    gap_of : (e : Edge) → Mem (level e) c.strokes → (x : Cell) → Inside (ends c (level e)) x → ((c.bar e.0).row ≡ x.row) × Gap c e x.column
    unfolding stroke_edge
    gap_of e m x i =
        let (a, b, r, f) = T.levels e m in
        let A = T.bars e.0 a in
        let B = T.bars e.1 b in
        let k = all_mem N m in
        elim (T.apart e.0 e.1 a b (omega arith) r) [
          | inl p ↦ elim i [ inl q ↦ (q.0, inl (omega (arith, p, q))) | inr q ↦ absurd (omega (arith, p, q)) ]
          | inr p ↦ elim i [ inl q ↦ (q.0, inr (omega (arith, p, q))) | inr q ↦ absurd (omega (arith, p, q)) ]
        ]

    -- the cells between the ends of an upright are those of its column between its rows
    path_of : (e : Edge) (j : ℕ) (x : Cell) → Inside (ends c (upright e j)) x → (j ≡ x.column) × Between (c.bar e.0).row (c.bar e.1).row x.row
    path_of e j x (inl q) = absurd (omega (arith, q))
    path_of e j x (inr q) = (q.0, between_of _ _ _ q.2)

    true_fits : (s : Stroke) → Mem s c.strokes → BarsFit c s
    true_fits (level e) m =
        let (a, b, r, f) = T.levels e m in
        (r, below_all c.n (λ z h w. let g = gap_of e m w.0 w.1 in f z w.0.column h (w.2.0 ∙ sym g.0) (w.2.1, w.2.2) g.1))
    true_fits (upright e j) m =
        let (a, b, x, y, r, f) = T.uprights e j m in
        ((x, y, r), below_all c.n (λ z h w. let g = path_of e j w.0 w.1 in f z h (omega arith, omega arith) (rw (← w.2.0) at g.1)))

    true_clear : (s t : Stroke) → Mem s c.strokes → Mem t c.strokes → ¬ Passes c s t
    true_clear (upright e j) (level f) m k (x, p, q) =
        let g = gap_of f k x q in
        let h = path_of e j x p in
        T.clear e f j m k (rw (← h.0) at g.1) (rw (← g.0) at h.1)
    true_clear (upright e j) (upright f i) m k x = x
    true_clear (level e) t m k x = x

    pub true_rules : Ascending (map stroke_edge c.strokes) → BarRule c × StrokeRule c × GapRule c
    true_rules A = (true_bars, (N, A, all_of c.strokes true_fits), all_of c.strokes (λ s m. all_of c.strokes (λ t k. true_clear s t m k)))
