-- The bars that are read in the bytes of a chart are the chart's.
use mathlib.Core.Path.{◌≡◌, ap, ◌∙◌}
use mathlib.Core.List.{List, [], ◌∷◌, ◌++◌, map, flat_map, append_assoc}
use Prim.Native.Nat.{ℕ, zero, suc, ◌+◌, ◌*◌, ◌<◌}
use native.Mathlib.Nat.{add_assoc, div-add-mod'}
use native.Mathlib.Omega.{arith}
use lib.ListN.{length, get_or}
use lib.Seq.{get_or-append-add}
use Rattle.lists.specs.Lists.{below, numbers}
use Rattle.codec.specs.Numbers.{bytes16}
use Rattle.chart.specs.Chart.{Bar, Chart, bars_of}
use Rattle.chart.specs.Bytes.{bar_bytes, stroke_bytes, bytes_of}
use Rattle.chart.specs.Decode.{bar_at, chart_in}
use Rattle.chart.proofs.Sizes.{bars_count}

-- a bar behind other bytes, and bars one behind the other
bar_after : (xs ys : List ℕ) (at : ℕ) → bar_at (xs ++ ys) (length xs + at) ≡ bar_at ys at
bar_after xs ys at = simp (add_assoc, get_or-append-add)

pub bar_back : (bs : List Bar) (ys : List ℕ) (d : Bar) (i : ℕ) → i < length bs → bar_at (flat_map bar_bytes bs ++ ys) (6 * i) ≡ get_or bs i d
unfolding flat_map bar_bytes
bar_back [] ys d i h = absurd (omega arith)
bar_back (b ∷ bs) ys d zero h = λ i. record { row = div-add-mod' b.row 256 i; left = div-add-mod' b.left 256 i; right = div-add-mod' b.right 256 i }
bar_back (b ∷ bs) ys d (suc i) h =
    let e : 6 * suc i ≡ 6 + 6 * i = omega arith in
    rw e (bar_after (bar_bytes b) (flat_map bar_bytes bs ++ ys) (6 * i) ∙ bar_back bs ys d i (omega arith))

map_get : {A : Type 0} (f : ℕ → A) (d : A) (m k x : ℕ) → x < m → get_or (map f (numbers m k)) x d ≡ f (k + x)
unfolding numbers
map_get f d zero k x h = absurd (omega arith)
map_get f d (suc m) k zero h = ap f (omega arith)
map_get f d (suc m) k (suc x) h = map_get f d m (suc k) x (omega arith) ∙ ap f (omega arith)

-- the bars of a chart, whatever lies behind its bytes
pub bar_in : (c : Chart) (rest : List ℕ) (x : ℕ) → x < c.n → (chart_in (bytes_of c ++ rest)).bar x ≡ c.bar x
unfolding bytes_of bars_of below
bar_in c rest x h =
    let head : List ℕ = bytes16 c.rows ++ (bytes16 c.columns ++ bytes16 c.n) in
    let strokes : List ℕ = flat_map stroke_bytes c.strokes in
    let z : 0 + x ≡ x = omega arith in
    rw (append_assoc (flat_map bar_bytes (bars_of c)) strokes rest)
    (bar_after head (flat_map bar_bytes (bars_of c) ++ (strokes ++ rest)) (6 * x)
    ∙ (bar_back (bars_of c) (strokes ++ rest) (c.bar 0) x (omega (arith, bars_count c)) ∙ rw z at (map_get c.bar (c.bar 0) c.n 0 x h)))
