-- Closing up a chart: its rows without a bar go, the others keep their order, and all else stays. So a true chart stays true and shows the same polygon.
use mathlib.Core.Path.{◌≡◌, refl, sym, ◌∙◌, ap, ap₂}
use mathlib.Core.Logic.{◌↔◌, inl, inr}
use mathlib.Core.List.{List, [], ◌∷◌, ◌++◌, map, map-append, map-id, map-map, flat_map}
use Prim.Native.Nat.{ℕ, zero, suc, ◌+◌, ◌≤◌, ◌<◌}
use native.Mathlib.Decide.{dec_le, dec_lt, ℕ_discrete}
use native.Mathlib.Omega.{arith}
use lib.ListN.{length, get_or, length-append, get_or-map}
use Rattle.lists.specs.Lists.{Mem, keep, numbers, below, mem?}
use Rattle.lists.proofs.Lists.{all_mem, mem_map, mem_unmap, keep_append, keep_yes, keep_no, keep_split, keep_every}
use Rattle.lists.proofs.Places.{below_all, below_count, below_mem, below_next, map_below, map_places}
use Rattle.codec.specs.Numbers.{bytes16}
use Rattle.polygon.specs.Polygon.{Edge, Polygon}
use Rattle.chart.specs.Chart.{Bar, Chart, bars_of, corner_rows, layout, bar_rows, closed_row, closed, NoEmptyRow, Touching, Between, True, Shows}
use Rattle.chart.specs.Pieces.{Rooted}
use Rattle.chart.specs.Closing.{BarsInside, ClosesUp}
use Rattle.chart.specs.Bytes.{bar_bytes, stroke_bytes, bytes_of}
use Rattle.chart.proofs.Sizes.{bytes_length}

-- where the bars lie on the rows rs
module _ (rs : List ℕ) where
  -- whether a bar lies on row s
  abbrev pub carries? : (s : ℕ) → Dec (Mem s rs)
  carries? s = mem? ℕ_discrete s rs

  -- row 0 stays
  pub closed_zero : closed_row rs 0 ≡ 0
  unfolding closed_row below numbers keep
  closed_zero = refl

  -- one row more to count
  next_row : (r : ℕ) → closed_row rs (suc r) ≡ closed_row rs r + length (keep carries? (r ∷ []))
  unfolding closed_row
  next_row r = rw (below_next r, keep_append carries? (below r) (r ∷ [])) (length-append (keep carries? (below r)) (keep carries? (r ∷ [])))

  -- a row with a bar counts
  pub closed_carried : (r : ℕ) → Mem r rs → closed_row rs (suc r) ≡ suc (closed_row rs r)
  unfolding keep
  closed_carried r m = omega (arith, next_row r, ap length (keep_yes carries? r [] m))

  -- an empty row does not
  pub closed_empty : (r : ℕ) → ¬ Mem r rs → closed_row rs (suc r) ≡ closed_row rs r
  unfolding keep
  closed_empty r m = omega (arith, next_row r, ap length (keep_no carries? r [] m))

  -- no row gets a larger number
  pub closed_le : (r : ℕ) → closed_row rs r ≤ r
  unfolding closed_row
  closed_le r = omega (arith, keep_split carries? (below r), below_count r)

  -- no two rows change their order
  pub closed_mono : (r s : ℕ) → r ≤ s → closed_row rs r ≤ closed_row rs s
  closed_mono r zero h = let e : r ≡ 0 = omega arith in rw e (omega arith)
  closed_mono r (suc s) h = go (dec_le r s) (closed_mono r s)
    where
      go : Dec (r ≤ s) → (r ≤ s → closed_row rs r ≤ closed_row rs s) → closed_row rs r ≤ closed_row rs (suc s)
      go (yes p) f = omega (arith, f p, next_row s)
      go (no p) f = let e : r ≡ suc s = omega arith in rw e (omega arith)

  -- a row with a bar stays before each later row
  pub closed_less : (r s : ℕ) → Mem r rs → r < s → closed_row rs r < closed_row rs s
  closed_less r s m h = omega (arith, closed_carried r m, closed_mono (suc r) s h)

  -- of two rows, the one before the other was so before
  closed_back : (r s : ℕ) → closed_row rs r < closed_row rs s → r < s
  closed_back r s h = let f : ¬ (s ≤ r) = λ k. omega (arith, closed_mono s r k) in omega arith

  -- and so for a row between two
  between_back : (a b r : ℕ) → Between (closed_row rs a) (closed_row rs b) (closed_row rs r) → Between a b r
  between_back a b r (inl h) = inl (closed_back a r h.0, closed_back r b h.1)
  between_back a b r (inr h) = inr (closed_back b r h.0, closed_back r a h.1)

  -- two rows with bars do not become one
  closed_one : (r s : ℕ) → Mem r rs → Mem s rs → closed_row rs r ≡ closed_row rs s → r ≡ s
  closed_one r s m k e =
      let f : ¬ (r < s) = λ h. omega (arith, closed_less r s m h) in
      let g : ¬ (s < r) = λ h. omega (arith, closed_less s r k h) in
      omega arith

  -- each row comes from a row with a bar
  pub closed_reached : (h k : ℕ) → k < closed_row rs h → (r : ℕ) × (r < h) × Mem r rs × (closed_row rs r ≡ k)
  closed_reached zero k q = absurd (omega (arith, closed_zero))
  closed_reached (suc h) k q = go (dec_lt k (closed_row rs h)) (carries? h) (closed_reached h k)
    where
      go : Dec (k < closed_row rs h) → Dec (Mem h rs) → (k < closed_row rs h → (r : ℕ) × (r < h) × Mem r rs × (closed_row rs r ≡ k)) → (r : ℕ) × (r < suc h) × Mem r rs × (closed_row rs r ≡ k)
      go (yes p) d f = let (r, a, m, e) = f p in (r, omega arith, m, e)
      go (no p) (yes m) f = (h, omega arith, m, omega (arith, closed_carried h m))
      go (no p) (no m) f = absurd (omega (arith, closed_empty h m))

  -- a row stays if no row before it is empty
  pub closed_all : (r : ℕ) → ((s : ℕ) → s < r → Mem s rs) → closed_row rs r ≡ r
  unfolding closed_row
  closed_all r f = keep_every carries? (below_all r f) ∙ below_count r

module _ (c : Chart) where
  -- the row of each bar carries a bar
  pub row_carried : (x : ℕ) → x < c.n → Mem (c.bar x).row (bar_rows c)
  unfolding bar_rows bars_of
  row_carried x h = mem_map (λ b. b.row) (mem_map c.bar (below_mem c.n x h))

  -- and a row that carries a bar is the row of some corner's bar
  pub carried_row : (r : ℕ) → Mem r (bar_rows c) → (x : ℕ) × (x < c.n) × ((c.bar x).row ≡ r)
  unfolding bar_rows bars_of
  carried_row r m =
      let (b, k, e) = mem_unmap (λ b. b.row) (bars_of c) m in
      let (x, i, q) = mem_unmap c.bar (below c.n) k in
      (x, all_mem (below_all c.n (λ y h. h)) i, sym (e ∙ ap (λ b. b.row) q))

  -- closing up keeps which of two bars lies on the row before
  pub closed_order : (x y : ℕ) → x < c.n → y < c.n → ((c.bar x).row < (c.bar y).row) ↔ (((closed c).bar x).row < ((closed c).bar y).row)
  unfolding closed
  closed_order x y h k = (closed_less (bar_rows c) (c.bar x).row (c.bar y).row (row_carried x h), closed_back (bar_rows c) (c.bar x).row (c.bar y).row)

  -- and which two lie on one row
  pub closed_same_row : (x y : ℕ) → x < c.n → y < c.n → ((c.bar x).row ≡ (c.bar y).row) ↔ (((closed c).bar x).row ≡ ((closed c).bar y).row)
  unfolding closed
  closed_same_row x y h k = (ap (closed_row (bar_rows c)), closed_one (bar_rows c) (c.bar x).row (c.bar y).row (row_carried x h) (row_carried y k))

  -- a true chart stays true
  pub closed_true : True c → True (closed c)
  unfolding closed
  closed_true T = record {
    bars = λ x h. let (l, r, k) = T.bars x h in (l, r, closed_less (bar_rows c) (c.bar x).row c.rows (row_carried x h) k);
    apart = λ x y h k ne e. T.apart x y h k ne ((closed_same_row x y h k).1 e);
    levels = λ e m. let (h, k, q, f) = T.levels e m in (h, k, (closed_same_row e.0 e.1 h k).0 q, λ z j i o. f z j i ((closed_same_row z e.0 i h).1 o));
    uprights = λ e j m.
        let (h, k, a, b, ne, f) = T.uprights e j m in
        (h, k, a, b, λ q. ne ((closed_same_row e.0 e.1 h k).1 q), λ z i o t. f z i o (between_back (bar_rows c) (c.bar e.0).row (c.bar e.1).row (c.bar z).row t));
    clear = λ e f j m k g t. T.clear e f j m k g (between_back (bar_rows c) (c.bar e.0).row (c.bar e.1).row (c.bar f.0).row t);
  }

  -- the chart shows the polygon that it showed
  pub closed_shows : (p : Polygon) → Shows c p → Shows (closed c) p
  unfolding closed
  closed_shows p S = record { corners = S.corners; edges = S.edges; ascending = S.ascending }

  -- it takes as many bytes
  pub closed_length : length (bytes_of (closed c)) ≡ length (bytes_of c)
  unfolding closed
  closed_length = bytes_length (closed c) ∙ sym (bytes_length c)

  -- a bar lies on each of its rows
  pub closed_no_empty : NoEmptyRow (closed c)
  unfolding closed
  closed_no_empty k h =
      let (r, a, m, e) = closed_reached (bar_rows c) c.rows k h in
      let (x, i, q) = carried_row r m in
      (x, i, ap (closed_row (bar_rows c)) q ∙ e)

  -- it gets no more rows
  pub closed_rows_most : (closed c).rows ≤ c.rows
  unfolding closed
  closed_rows_most = closed_le (bar_rows c) c.rows

  -- nothing changes where no row is empty and the bars lie within the rows
  pub closed_nothing : NoEmptyRow c → BarsInside c → ((closed c).rows ≡ c.rows) × ((x : ℕ) → x < c.n → (closed c).bar x ≡ c.bar x)
  unfolding closed
  closed_nothing N B = (stays c.rows (omega arith), λ x h i. record { row = stays (c.bar x).row (omega (arith, B x h)) i; left = (c.bar x).left; right = (c.bar x).right })
    where
      stays : (r : ℕ) → r ≤ c.rows → closed_row (bar_rows c) r ≡ r
      stays r h = closed_all (bar_rows c) r (λ s k. let (x, i, e) = N s (omega arith) in rw e at (row_carried x i))

  -- so the bytes are the same
  pub closed_bytes_same : NoEmptyRow c → BarsInside c → bytes_of (closed c) ≡ bytes_of c
  unfolding bytes_of bars_of closed
  closed_bytes_same N B =
      let (r, b) = closed_nothing N B in
      ap₂ (λ (h : ℕ) (bs : List Bar). bytes16 h ++ (bytes16 c.columns ++ (bytes16 c.n ++ (flat_map bar_bytes bs ++ flat_map stroke_bytes c.strokes)))) r (map_below (closed c).bar c.bar c.n b)

  -- a piece stands where it stood, with the bars of its root corners
  pub closed_rooted : (xs : List Edge) (a b : ℕ) → Rooted c xs a b → Rooted (closed c) xs a b
  unfolding closed
  closed_rooted xs a b R = record { at = R.at; named = R.named; starts = R.starts; ends = R.ends; meet = R.meet }

  -- bars in touching columns still touch
  pub closed_touching : (e : Edge) → Touching c e → Touching (closed c) e
  unfolding closed
  closed_touching e t = t

-- all of it
pub closing : (c : Chart) → ClosesUp c
unfolding closed
closing c = record {
  true = closed_true c;
  shows = closed_shows c;
  columns = refl;
  spans = λ x. (refl, refl);
  strokes = refl;
  size = closed_length c;
  full = closed_no_empty c;
  fewer = closed_rows_most c;
  order = closed_order c;
  level = closed_same_row c;
  nothing = closed_bytes_same c;
}

-- the root corners' row 0 stays, and the inner corners' rows close up
pub corners_shut : (rs : List ℕ) → map (closed_row (corner_rows rs)) (corner_rows rs) ≡ corner_rows (map (closed_row (corner_rows rs)) rs)
corners_shut rs =
    let f : ℕ → ℕ = closed_row (corner_rows rs) in
    ap (λ (l : List ℕ). f 0 ∷ l) (map-append f rs (0 ∷ [])) ∙ ap (λ (z : ℕ). z ∷ (map f rs ++ (z ∷ []))) (closed_zero (corner_rows rs))

module _ (v h : ℕ) (rs : List ℕ) (us es : List Edge) (size : suc (length rs) ≡ v) where
  -- on these lie the bars of a layout
  pub layout_rows : bar_rows (layout v h rs us es) ≡ corner_rows rs
  unfolding bar_rows bars_of below layout
  layout_rows =
      let n : length (corner_rows rs) ≡ suc v = omega (arith, length-append rs (0 ∷ [])) in
      map-map (λ b. b.row) (layout v h rs us es).bar (numbers (suc v) 0)
      ∙ (rw n at (map_places (λ r. r) (λ x. get_or (corner_rows rs) x 0) 0 (corner_rows rs) 0 (λ i k. let z : 0 + i ≡ i = omega arith in ap (λ x. get_or (corner_rows rs) x 0) z)) ∙ map-id (corner_rows rs))

  -- the row of each corner of the layout closed up
  closed_at : (x : ℕ) → closed_row (bar_rows (layout v h rs us es)) (get_or (corner_rows rs) x 0) ≡ get_or (corner_rows (map (closed_row (corner_rows rs)) rs)) x 0
  closed_at x =
      let f : ℕ → ℕ = closed_row (corner_rows rs) in
      rw layout_rows (sym (get_or-map f (corner_rows rs) x 0) ∙ (ap (λ (z : ℕ). get_or (map f (corner_rows rs)) x z) (closed_zero (corner_rows rs)) ∙ ap (λ (l : List ℕ). get_or l x 0) (corners_shut rs)))

  -- a layout closed up is the layout with closed rows
  pub closed_layout : closed (layout v h rs us es) ≡ layout v (closed_row (corner_rows rs) h) (map (closed_row (corner_rows rs)) rs) us es
  unfolding closed layout
  closed_layout = λ i. record {
    rows = closed_row (layout_rows i) h;
    columns = length us;
    n = suc v;
    bar = λ x. record { row = closed_at x i; left = ((layout v h rs us es).bar x).left; right = ((layout v h rs us es).bar x).right };
    strokes = (layout v h rs us es).strokes;
  }
