-- Where the corners of a rim stand, and the columns of a rim corner and of a gate.
-- Rests on places and blocks.
use mathlib.Core.Path.{◌≡◌, refl, sym, subst}
use mathlib.Core.List.{List, [], ◌∷◌}
use Prim.Native.Nat.{ℕ, suc, ◌+◌, ◌-◌, ◌≤◌}
use native.Mathlib.Decide.{dec_le}
use native.Mathlib.Omega.{arith}
use Rattle.lists.specs.Lists.{All, all_cons, all_nil}
use Rattle.polygon.specs.Polygon.{Edge}
use Rattle.chart.specs.Chart.{Meets}
use Rattle.chart.proofs.Cells.{Cell, row_by, δ, δ-le, δ-one}
use Rattle.chart.proofs.Column.{Asc, asc_rise, asc_end, Adj, adj_pre, adj_two, EdgeBetween, joins_sym, joins_left}
use Rattle.chart.proofs.Place.{Place, place_up, place_down, up_pl, down_pl}
use Rattle.chart.proofs.Block.{Block, block_one}

-- where a rim's corners stand, each with a column to the corner w; the rows of what hangs there go by f
pub record Rim (k m : ℕ) (R : Cell → Type 0) (w : ℕ) (f : ℕ → ℕ) : Type 1 where
  pub pl : List Cell → List Cell
  pub E : List Cell
  pub st : ℕ → List Cell
  pub place : Place pl E st f m k
  pub joins : (y : ℕ) (e : Edge) → EdgeBetween e w y → Adj e (st y)
  pub known : All R E

-- on row k, the pieces going upwards
unfoldable pub rim_up : (k m : ℕ) (R : Cell → Type 0) (w : ℕ) → m + 2 ≤ k → R (w, 0) → Rim k m R w (λ r. k - r)
rim_up k m R w h r = record {
  pl = up_pl k ((w, 0) ∷ []);
  E = (w, 0) ∷ [];
  st = λ y. (w, 0) ∷ ((y, k) ∷ []);
  place = place_up m k ((w, 0) ∷ []) (omega arith) (asc_rise (omega arith) (asc_end (omega arith)));
  joins = λ y e j. adj_two e (w, 0) (y, k) [] j;
  known = all_cons r all_nil;
}

-- on row 1, the pieces going downwards, under a corner p on row k
unfoldable pub rim_down : (k m : ℕ) (R : Cell → Type 0) (w p : ℕ) → m + 2 ≤ k → R (w, 0) → R (p, k) → Rim k m R w suc
rim_down k m R w p h r s = record {
  pl = down_pl ((w, 0) ∷ []) ((p, k) ∷ []);
  E = (w, 0) ∷ ((p, k) ∷ []);
  st = λ y. (w, 0) ∷ ((y, 1) ∷ ((p, k) ∷ []));
  place = place_down m k ((w, 0) ∷ []) ((p, k) ∷ []) (asc_rise (omega arith) (asc_end (omega arith))) (asc_rise (omega arith) (asc_end (omega arith)));
  joins = λ y e j. adj_two e (w, 0) (y, 1) ((p, k) ∷ []) j;
  known = all_cons r (all_cons s all_nil);
}

ends_met : {e : Edge} {a b : ℕ} → EdgeBetween e a b → (x : ℕ) → 1 ≤ δ x a + δ x b → Meets x e
ends_met {e} {a} {b} j x h = pick (dec_le 1 (δ x a))
  where
    pick : Dec (1 ≤ δ x a) → Meets x e
    pick (yes k) = subst (λ (y : ℕ). Meets y e) (sym (δ-one x a (omega (arith, δ-le x a)))) (joins_left j)
    pick (no k) = subst (λ (y : ℕ). Meets y e) (sym (δ-one x b (omega (arith, δ-le x b)))) (joins_left (joins_sym j))

-- the column of one rim corner
pub rim_column : {k m : ℕ} {R : Cell → Type 0} {w : ℕ} {f : ℕ → ℕ} (X : Rim k m R w f) (y : ℕ) (e : Edge) → EdgeBetween e w y → R (y, f 0)
    → Block k R (X.st y, e) (X.st y, e) (λ x. 0) (λ x. δ x w + δ x y) (e ∷ []) []
rim_column {k} {m} {R} {w} {f} X y e j r =
    block_one (X.st y, e)
    (record {
      asc = subst (Asc (suc k) 0) (X.place.at y) (X.place.ascs ((y, 0) ∷ []) (asc_rise (omega arith) (asc_end (omega arith))));
      joins = X.joins y e j;
      known = subst (All R) (X.place.at y) (X.place.alls (λ z. z ≡ (y, 0)) R ((y, 0) ∷ []) (λ z h. subst (λ (c : Cell). R (row_by f c)) (sym h) r) X.known (all_cons refl all_nil));
    })
    (λ x. δ x w + δ x y) (ends_met j)

-- the cells of a gate's column, and the column
abbrev pub gate_cells : ℕ → ℕ → ℕ → ℕ → List Cell
gate_cells k w y z = (w, 0) ∷ ((y, 1) ∷ ((z, k) ∷ []))

pub gate_column : {k : ℕ} {R : Cell → Type 0} (w y z : ℕ) (e : Edge) → 2 ≤ k → EdgeBetween e y z → R (w, 0) → R (y, 1) → R (z, k)
    → Block k R (gate_cells k w y z, e) (gate_cells k w y z, e) (λ x. 0) (λ x. δ x y + δ x z) (e ∷ []) []
gate_column {k} w y z e h j rw ry rz =
    block_one (gate_cells k w y z, e)
    (record {
      asc = asc_rise (omega arith) (asc_rise (omega arith) (asc_rise (omega arith) (asc_end (omega arith))));
      joins = adj_pre ((w, 0) ∷ []) (adj_two e (y, 1) (z, k) [] j);
      known = all_cons rw (all_cons ry (all_cons rz all_nil));
    })
    (λ x. δ x y + δ x z) (ends_met j)

-- a hung piece on row k between two gates with the same corner y on row 1
pub gate_place : (k m w y : ℕ) → m + 2 ≤ k → Place (up_pl k ((w, 0) ∷ ((y, 1) ∷ []))) ((w, 0) ∷ ((y, 1) ∷ [])) (λ z. gate_cells k w y z) (λ r. k - r) m k
gate_place k m w y fit = place_up m k ((w, 0) ∷ ((y, 1) ∷ [])) (omega arith) (asc_rise (omega arith) (asc_rise (omega arith) (asc_end (omega arith))))
