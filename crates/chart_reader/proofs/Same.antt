-- Two charts with the same numbers: if one is true or shows a part, so is and does the other. (The bars beyond the corners do not matter.)
use mathlib.Core.Path.{◌≡◌, ◌∙◌}
use Prim.Native.Nat.{ℕ, ◌<◌}
use Rattle.polygon.specs.Polygon.{Polygon}
use Rattle.chart.specs.Chart.{Chart, True, Shows}

pub record SameNumbers (d c : Chart) : Type 0 where
  pub rows : d.rows ≡ c.rows
  pub columns : d.columns ≡ c.columns
  pub corners : d.n ≡ c.n
  pub bars : (x : ℕ) → x < c.n → d.bar x ≡ c.bar x
  pub strokes : d.strokes ≡ c.strokes

module _ (d c : Chart) (S : SameNumbers d c) where
  pub same_true : True c → True d
  same_true T = record {
    bars = λ x h. let i : x < c.n = rw S.corners at h in rw (S.bars x i, S.columns, S.rows) (T.bars x i);
    apart = λ x y h k f e.
        let i : x < c.n = rw S.corners at h in
        let j : y < c.n = rw S.corners at k in
        rw (S.bars x i, S.bars y j) (T.apart x y i j f (rw (S.bars x i, S.bars y j) at e));
    levels = λ e m.
        let (a, b, r, f) = T.levels e (rw S.strokes at m) in
        rw (S.corners, S.bars e.0 a, S.bars e.1 b) (a, b, r, λ z j h. rw (S.bars z h) (f z j h));
    uprights = λ e j m.
        let (a, b, x, y, r, f) = T.uprights e j (rw S.strokes at m) in
        rw (S.corners, S.bars e.0 a, S.bars e.1 b) (a, b, x, y, r, λ z h. rw (S.bars z h) (f z h));
    clear = λ e f j m k.
        let u = rw S.strokes at m in
        let l = rw S.strokes at k in
        let (a, b, x, y, r, g) = T.uprights e j u in
        let (p, q, t, h) = T.levels f l in
        rw (S.bars e.0 a, S.bars e.1 b, S.bars f.0 p, S.bars f.1 q) (T.clear e f j u l);
  }

  pub same_shows : (p : Polygon) → Shows c p → Shows d p
  same_shows p H = record { corners = S.corners ∙ H.corners; edges = rw S.strokes H.edges; ascending = rw S.strokes H.ascending }
