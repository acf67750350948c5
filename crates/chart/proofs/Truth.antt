-- The chart laid out from a drawing's columns is true, and the bars of its level strokes stand in touching columns.
-- Rests on Draw's invariant of the columns, the labels of runs, the first and last columns of uprights, and the strokes.
use mathlib.Core.Path.{◌≡◌, refl, sym, ◌∙◌, ap, subst}
use mathlib.Core.Logic.{◌⊎◌, inl, inr, ◌≢◌}
use mathlib.Core.List.{List, ◌∷◌, map}
use Prim.Native.Nat.{ℕ, suc, ◌+◌, ◌-◌, ◌*◌, ◌≤◌, ◌<◌, max}
use native.Mathlib.Decide.{dec_le, dec_lt, ℕ_discrete}
use native.Mathlib.Omega.{arith}
use lib.ListN.{length, length-map}
use Rattle.lists.specs.Lists.{Mem, choose, head, tail, Nth, next, now}
use Rattle.lists.proofs.Lists.{all_mem}
use Rattle.lists.proofs.Places.{nth_at, nth_lt, nth_map, nth_mem, nth_unmap}
use Rattle.polygon.specs.Polygon.{Edge, ◌—◌}
use Rattle.chart.specs.Chart.{Meets, first, last, layout, level, stroke, Gap, Touching, Between, True}
use Rattle.chart.proofs.Cells.{δ, δ-self, δ-le, δ-one, lower_suc, lower_yes, lower_no, range, range_is, num_in, in_num}
use Rattle.chart.proofs.Runs.{Col, Run}
use Rattle.chart.proofs.Column.{CellOn, asc_one, asc_below, UprightEnds, adj_ends, ends_has, Good}
use Rattle.chart.proofs.Touch.{Tip, Facing, start, FacingIn, near, later, near_start}
use Rattle.chart.proofs.Hull.{Served, first_at, last_at, left_le, right_ge}
use Rattle.chart.proofs.Labels.{lab, lab_low, lab_high, lab_mono, lab_one, lab_has}
use Rattle.chart.proofs.Strokes.{level_in, upright_in}
use Rattle.chart.proofs.Block.{up_of}
use Rattle.chart.proofs.Rows.{row_of, OnRow}
use Rattle.chart.proofs.Umbrella.{PieceDrawn}

-- the two columns at which a level edge's bars meet
abbrev Pair : Edge → List Col → Type 0
Pair e L = (i : ℕ) × (b : Col) × (c : Col) × Nth b i L × Nth c (suc i) L × Facing e b c

touch_pair : {e : Edge} {S : Col} {L : List Col} → FacingIn e S L → Pair e (S ∷ L)
touch_pair {S = S} (near {c = c} n) = (0, S, c, now refl, next (now refl), n)
touch_pair (later t) = let (i, b, c, n, m, q) = touch_pair t in (suc i, b, c, next n, next m, q)

-- from no column on: within the list
touch_within : {e : Edge} {L : List Col} → FacingIn e start L → Pair e L
touch_within (near n) = absurd (near_start n)
touch_within (later t) = touch_pair t

-- The chart of the piece (0,v) of D levels, on rows rs, with columns us, level edges fs besides its root edge, and all its edges es.
module _ (v D : ℕ) (rs : List ℕ) (us fs es : List Edge) (sides : ℕ) (big : 1 < sides) (pos : 1 ≤ v) (w : PieceDrawn sides 0 v (2 * D) (OnRow v rs) us fs)
    (parts : (e : Edge) → Mem e es → (Mem e us → ⊥) → Mem e ((0 — v) ∷ fs)) (two : (e : Edge) → Mem e es → e.0 ≢ e.1) where
  abbrev cols : List Col
  cols = w.piece.L

  abbrev row : ℕ → ℕ
  row x = row_of rs x

  abbrev left : ℕ → ℕ
  left x = choose (ℕ_discrete x 0) 0 (first x us)

  abbrev right : ℕ → ℕ
  right x = choose (ℕ_discrete x v) (length us - 1) (last x us)

  -- each corner has one stretch of columns
  once : (x : ℕ) → x ≤ v → δ x 0 + (δ x v + range 1 v x) ≡ 1
  once x h = omega (arith, lower_suc 0 x, lower_no 0 x (omega arith), lower_suc v x, lower_yes (suc v) x (omega arith), range_is 1 v x pos)

  run : (x : ℕ) → x ≤ v → Run x (δ x 0) cols (2 - δ x v)
  run x h = (w.piece.run x).live (once x h)

  good_at : (j : ℕ) (c : Col) → Nth c j cols → Good (2 * D) (OnRow v rs) c
  good_at j c n = all_mem w.piece.good (nth_mem n)

  -- a cell's corner and row
  cell_row : (x r j : ℕ) (c : Col) → Nth c j cols → CellOn x r c.0 → (x ≤ v) × (r ≡ row x)
  cell_row x r j c n i = all_mem (good_at j c n).known i

  one_cell : (x y r j : ℕ) (c : Col) → Nth c j cols → CellOn x r c.0 → CellOn y r c.0 → x ≡ y
  one_cell x y r j c n p q = asc_one x y r (good_at j c n).asc p q

  -- label 1 and having a cell are the same
  lab_cell : (x j : ℕ) (h : x ≤ v) (c : Col) → Nth c j cols → lab (run x h) j ≡ 1 → CellOn x (row x) c.0
  lab_cell x j h c n e = let (r, i) = in_num x c.0 (lab_has (run x h) n e) in subst (λ (y : ℕ). CellOn x y c.0) (cell_row x r j c n i).1 i

  cell_lab : (x r j : ℕ) (h : x ≤ v) (c : Col) → Nth c j cols → CellOn x r c.0 → lab (run x h) j ≡ 1
  cell_lab x r j h c n i = lab_one (run x h) n (num_in x r i)

  -- columns and uprights
  col_at : (j : ℕ) → j < length us → (c : Col) × Nth c j cols
  col_at j h = nth_at cols j (omega (arith, sym (length-map cols up_of) ∙ ap length w.piece.ups))

  up_at : (j : ℕ) (c : Col) → Nth c j cols → Nth c.1 j us
  up_at j c n = subst (Nth c.1 j) w.piece.ups (nth_map up_of n)

  ends_at : (e : Edge) (j : ℕ) → Nth e j us → (c : Col) × Nth c j cols × UprightEnds e c.0
  ends_at e j n =
      let (c, q, g) = nth_unmap up_of cols (subst (Nth e j) (sym w.piece.ups) n) in
      (c, q, subst (λ (f : Edge). UprightEnds f c.0) (sym g) (adj_ends (good_at j c q).asc (good_at j c q).joins))

  up_lab : (x j : ℕ) (h : x ≤ v) (e : Edge) → Nth e j us → Meets x e → lab (run x h) j ≡ 1
  up_lab x j h e n m =
      let (c, q, E) = ends_at e j n in
      let (r, i) = ends_has x E m in
      cell_lab x r j h c q i

  served : (x : ℕ) → x ≤ v → Served x us
  served x h = pick (dec_le 1 (range 1 v x)) (dec_le 1 (δ x 0))
    where
      pick : Dec (1 ≤ range 1 v x) → Dec (1 ≤ δ x 0) → Served x us
      pick (yes g) y = w.piece.served x g
      pick (no g) (yes y) = subst (λ (z : ℕ). Served z us) (sym (δ-one x 0 (omega (arith, δ-le x 0)))) (w.full big).left
      pick (no g) (no y) = subst (λ (z : ℕ). Served z us) (sym (δ-one x v (omega (arith, once x h)))) (w.full big).right

  -- a bar lies on the labels 1
  left_lab : (x j : ℕ) (h : x ≤ v) → left x ≤ j → 1 ≤ lab (run x h) j
  unfolding choose
  left_lab x j h = pick (ℕ_discrete x 0)
    where
      pick : (k : Dec (x ≡ 0)) → choose k 0 (first x us) ≤ j → 1 ≤ lab (run x h) j
      pick (yes e) g = omega (arith, lab_low (run x h) j, subst (λ (y : ℕ). δ x y ≡ 1) e (δ-self x))
      pick (no e) g = let (f, n, m) = first_at x us (served x h) in omega (arith, up_lab x (first x us) h f n m, lab_mono (run x h) (first x us) j g)

  right_lab : (x j : ℕ) (h : x ≤ v) → j ≤ right x → lab (run x h) j ≤ 1
  unfolding choose
  right_lab x j h = pick (ℕ_discrete x v)
    where
      pick : (k : Dec (x ≡ v)) → j ≤ choose k (length us - 1) (last x us) → lab (run x h) j ≤ 1
      pick (yes e) g = omega (arith, lab_high (run x h) j, subst (λ (y : ℕ). δ x y ≡ 1) e (δ-self x))
      pick (no e) g = let (f, n, m) = last_at x us (served x h) in omega (arith, up_lab x (last x us) h f n m, lab_mono (run x h) j (last x us) g)

  over_cell : (x j : ℕ) → x ≤ v → left x ≤ j → j ≤ right x → (c : Col) → Nth c j cols → CellOn x (row x) c.0
  over_cell x j h l r c n = lab_cell x j h c n (omega (arith, left_lab x j h l, right_lab x j h r))

  -- and holds its uprights
  up_left : (x j : ℕ) (e : Edge) → Nth e j us → Meets x e → left x ≤ j
  up_left x j e n m = left_le x j e n m

  up_right : (x j : ℕ) (e : Edge) → Nth e j us → Meets x e → j ≤ right x
  up_right x j e n m = right_ge x v j e n m

  in_width : (x : ℕ) → x ≤ v → right x < length us
  unfolding choose
  in_width x h = let (f, n, m) = last_at x us (served x h) in pick (nth_lt n) (ℕ_discrete x v)
    where
      pick : last x us < length us → (k : Dec (x ≡ v)) → choose k (length us - 1) (last x us) < length us
      pick g (yes k) = omega arith
      pick g (no k) = g

  not_empty : (x : ℕ) → x ≤ v → left x ≤ right x
  not_empty x h = let (f, n, m) = first_at x us (served x h) in omega (arith, up_left x (first x us) f n m, up_right x (first x us) f n m)

  side_by_side : (x y r i : ℕ) (b c : Col) → Nth b i cols → Nth c (suc i) cols → Tip x r b → Tip y r c → x ≢ y → suc (right x) ≡ left y
  side_by_side x y r i b c n m p q ne =
      let hx = cell_row x r i b n p.0 in
      let hy = cell_row y r (suc i) c m q.0 in
      let lx : lab (run x hx.0) i ≡ 1 = cell_lab x r i hx.0 b n p.0 in
      let ly : lab (run y hy.0) (suc i) ≡ 1 = cell_lab y r (suc i) hy.0 c m q.0 in
      let a : i ≤ right x = up_right x i b.1 (up_at i b n) p.1 in
      let d : left y ≤ suc i = up_left y (suc i) c.1 (up_at (suc i) c m) q.1 in
      omega (arith, ends_x hx lx (dec_le (right x) i), starts_y hy ly (dec_le (suc i) (left y)))
    where
      ends_x : (hx : (x ≤ v) × (r ≡ row x)) → lab (run x hx.0) i ≡ 1 → Dec (right x ≤ i) → right x ≤ i
      ends_x hx lx (yes o) = o
      ends_x hx lx (no o) =
          let g : CellOn x (row x) c.0 = lab_cell x (suc i) hx.0 c m (omega (arith, right_lab x (suc i) hx.0 (omega arith), lab_mono (run x hx.0) i (suc i) (omega arith))) in
          absurd (ne (one_cell x y r (suc i) c m (subst (λ (z : ℕ). CellOn x z c.0) (sym hx.1) g) q.0))

      starts_y : (hy : (y ≤ v) × (r ≡ row y)) → lab (run y hy.0) (suc i) ≡ 1 → Dec (suc i ≤ left y) → suc i ≤ left y
      starts_y hy ly (yes o) = o
      starts_y hy ly (no o) =
          let g : CellOn y (row y) b.0 = lab_cell y i hy.0 b n (omega (arith, left_lab y i hy.0 (omega arith), lab_mono (run y hy.0) i (suc i) (omega arith))) in
          absurd (ne (one_cell x y r i b n p.0 (subst (λ (z : ℕ). CellOn y z b.0) (sym hy.1) g)))

  -- the bars of a level stroke
  record Level (e : Edge) : Type 0 where
    in0 : e.0 ≤ v
    in1 : e.1 ≤ v
    same : row e.0 ≡ row e.1
    touch : (suc (right e.0) ≡ left e.1) ⊎ (suc (right e.1) ≡ left e.0)

  level_of : (e : Edge) → Mem (level e) (map (stroke 0 us) es) → Level e
  level_of e t = let (i, b, c, n, m, q) = touch_within (among (parts e (level_in us es e t).0 (level_in us es e t).1)) in pick i b c n m q
    where
      among : Mem e ((0 — v) ∷ fs) → FacingIn e start cols
      among (head h) = subst (λ (f : Edge). FacingIn f start cols) (sym h) (w.full big).meet
      among (tail k) = all_mem w.piece.flats k

      apart : e.0 ≢ e.1
      apart = two e (level_in us es e t).0

      pick : (i : ℕ) (b c : Col) → Nth b i cols → Nth c (suc i) cols → Facing e b c → Level e
      pick i b c n m (inl r) =
          let p = cell_row e.0 r.0 i b n r.1.0 in
          let q = cell_row e.1 r.0 (suc i) c m r.2.0 in
          record { in0 = p.0; in1 = q.0; same = sym p.1 ∙ q.1; touch = inl (side_by_side e.0 e.1 r.0 i b c n m r.1 r.2 apart) }
      pick i b c n m (inr r) =
          let p = cell_row e.1 r.0 i b n r.1.0 in
          let q = cell_row e.0 r.0 (suc i) c m r.2.0 in
          record { in0 = q.0; in1 = p.0; same = sym q.1 ∙ p.1; touch = inr (side_by_side e.1 e.0 r.0 i b c n m r.1 r.2 (λ h. apart (sym h))) }

  -- bars in touching columns leave no gap
  no_gap : (e : Edge) (j : ℕ) → Level e → Gap (layout v (2 * D + 1) rs us es) e j → ⊥
  unfolding layout
  no_gap e j t g = pick t.touch g
    where
      pick : (suc (right e.0) ≡ left e.1) ⊎ (suc (right e.1) ≡ left e.0) → ((right e.0 < j) × (j < left e.1)) ⊎ ((right e.1 < j) × (j < left e.0)) → ⊥
      pick (inl h) (inl k) = omega arith
      pick (inl h) (inr k) = omega (arith, not_empty e.0 t.in0, not_empty e.1 t.in1)
      pick (inr h) (inl k) = omega (arith, not_empty e.0 t.in0, not_empty e.1 t.in1)
      pick (inr h) (inr k) = omega arith

  free_at : (e : Edge) (j x : ℕ) (c : Col) → Nth c j cols → UprightEnds e c.0 → (t : ℕ) → CellOn x t c.0 → Between (row e.0) (row e.1) t → ⊥
  free_at e j x c q E t i b =
      let (g, h) = cell_row e.0 E.r j c q E.low in
      let (k, l) = cell_row e.1 E.s j c q E.high in
      E.free x t i (subst (λ (r : ℕ). Between r E.s t) (sym h) (subst (λ (s : ℕ). Between (row e.0) s t) (sym l) b))

  pub truth : True (layout v (2 * D + 1) rs us es)
  unfolding layout
  truth = record {
    bars = λ x h. (omega (arith, not_empty x (omega arith)), omega (arith, in_width x (omega arith)), omega (arith, low x (omega arith)));
    apart = λ x y hx hy ne e. elim (sep x y (omega arith) (omega arith) ne e (dec_lt (right x) (left y)) (dec_lt (right y) (left x))) [ inl h ↦ inl (omega arith) | inr h ↦ inr (omega arith) ];
    levels = λ e i. let t : Level e = level_of e i in (omega (arith, t.in0), omega (arith, t.in1), omega (arith, t.same), λ z j hz ez o g. no_gap e j t g);
    uprights = λ e j i.
        let n = (upright_in us es e j i).1 in
        let (c, q, E) = ends_at e j n in
        let p0 = cell_row e.0 E.r j c q E.low in
        let p1 = cell_row e.1 E.s j c q E.high in (
          omega (arith, p0.0),
          omega (arith, p1.0),
          omega (arith, up_left e.0 j e n (inl refl), up_right e.0 j e n (inl refl)),
          omega (arith, up_left e.1 j e n (inr refl), up_right e.1 j e n (inr refl)),
          λ h. E.differ (omega (arith, p0.1, p1.1)),
          λ z hz o b. free_at e j z c q E (row z) (over_cell z j (omega arith) (omega arith) (omega arith) c q) b,
        );
    clear = λ e f j h i g b. no_gap f j (level_of f i) g;
  }
    where
      low : (x : ℕ) → x ≤ v → row x < 2 * D + 1
      low x h =
          let (c, n) = col_at (left x) (omega (arith, not_empty x h, in_width x h)) in
          one_up (asc_below x (row x) (good_at (left x) c n).asc (over_cell x (left x) h (omega arith) (not_empty x h) c n))
        where
          one_up : {a b : ℕ} → a < suc b → a < b + 1
          one_up q = omega arith

      sep : (x y : ℕ) → x ≤ v → y ≤ v → x ≢ y → row x ≡ row y → Dec (right x < left y) → Dec (right y < left x) → (right x < left y) ⊎ (right y < left x)
      sep x y hx hy ne e (yes p) q = inl p
      sep x y hx hy ne e (no p) (yes q) = inr q
      sep x y hx hy ne e (no p) (no q) =
          let j : ℕ = max (left x) (left y) in
          let (c, n) = col_at j (omega (arith, not_empty x hx, not_empty y hy, in_width x hx, in_width y hy)) in
          absurd (ne (one_cell x y (row x) j c n (over_cell x j hx (omega arith) (omega (arith, not_empty x hx)) c n)
          (subst (λ (r : ℕ). CellOn y r c.0) (sym e) (over_cell y j hy (omega arith) (omega (arith, not_empty y hy)) c n))))

  pub touching : (e : Edge) → Mem (level e) (layout v (2 * D + 1) rs us es).strokes → Touching (layout v (2 * D + 1) rs us es) e
  unfolding layout
  touching e i = (level_of e i).touch
