-- Where the columns of a hung piece go among the cells of an umbrella: upwards from its last row, or downwards from row 1.
-- Rests on Column.antt.
use mathlib.Core.Path.{◌≡◌, refl, ◌∙◌, ap}
use mathlib.Core.List.{List, [], ◌∷◌, ◌++◌, map}
use Prim.Native.Nat.{ℕ, suc, ◌+◌, ◌-◌, ◌≤◌}
use native.Mathlib.Nat.{sub-zero}
use native.Mathlib.Omega.{arith}
use Rattle.lists.specs.Lists.{All}
use Rattle.lists.proofs.Lists.{all_append, all_imp, all_left, all_map, all_right, mem_left, mem_right, all_reverse, mem_map, mem_reverse}
use Rattle.polygon.specs.Polygon.{Edge}
use Rattle.chart.proofs.Cells.{Cell, row_by, num, num_append, num_reverse, num_lay}
use Rattle.chart.proofs.Column.{Asc, asc_low, asc_high, asc_append, asc_suc, over, asc_over, CellOn, Adj, adj_pre, adj_post, adj_lay, adj_reverse}

-- `pl` puts the cells of a piece with rows to m among rows to k: beside the cells E, its row r on row f r, a corner of its row 0 as in `st`
pub record Place (pl : List Cell → List Cell) (E : List Cell) (st : ℕ → List Cell) (f : ℕ → ℕ) (m k : ℕ) : Type 1 where
  pub at : (a : ℕ) → pl ((a, 0) ∷ []) ≡ st a
  pub nums : (x : ℕ) (c : List Cell) → num x (pl c) ≡ num x E + num x c
  pub ins : (x r : ℕ) (c : List Cell) → CellOn x r c → CellOn x (f r) (pl c)
  pub alls : (R T : Cell → Type 0) (c : List Cell) → ((z : Cell) → R z → T (row_by f z)) → All T E → All R c → All T (pl c)
  pub adjs : {e : Edge} {c : List Cell} → Adj e c → Adj e (pl c)
  pub ascs : (c : List Cell) → Asc (suc m) 0 c → Asc (suc k) 0 (pl c)

-- turned over at row k, after the cells p
abbrev pub up_pl : ℕ → List Cell → List Cell → List Cell
up_pl k p c = p ++ over k c

pub place_up : (m k : ℕ) (p : List Cell) → m ≤ k → Asc (k - m) 0 p → Place (up_pl k p) p (λ a. p ++ ((a, k) ∷ [])) (k -◌) m k
place_up m k p h b = record {
  at = λ a. ap (λ z. p ++ ((a, z) ∷ [])) (sub-zero k);
  nums = λ x c. num_append x p (over k c) ∙ ap (num x p +◌) (num_reverse x (map (row_by (k -◌)) c) ∙ num_lay x (k -◌) c);
  ins = λ x r c i. mem_right p (mem_reverse (mem_map (row_by (k -◌)) i));
  alls = λ R T c g e a. all_append e (all_reverse (all_map (row_by (k -◌)) (all_imp g a)));
  adjs = λ j. adj_pre p (adj_reverse (adj_lay (k -◌) j));
  ascs = λ c a. asc_append b (asc_high (omega arith) (asc_low (omega arith) (asc_over k (omega arith) a)));
}

-- one row further on, between the cells p and q
abbrev pub down_pl : List Cell → List Cell → List Cell → List Cell
down_pl p q c = p ++ (map (row_by suc) c ++ q)

pub place_down : (m k : ℕ) (p q : List Cell) → Asc 1 0 p → Asc (suc k) (suc (suc m)) q → Place (down_pl p q) (p ++ q) (λ a. p ++ ((a, 1) ∷ q)) suc m k
place_down m k p q b d = record {
  at = λ a. refl;
  nums = λ x c. omega (arith, num_append x p (map (row_by suc) c ++ q), num_append x (map (row_by suc) c) q, num_append x p q, num_lay x suc c);
  ins = λ x r c i. mem_right p (mem_left q (mem_map (row_by suc) i));
  alls = λ R T c g e a. all_append (all_left p q e) (all_append (all_map (row_by suc) (all_imp g a)) (all_right p e));
  adjs = λ j. adj_pre p (adj_post q (adj_lay suc j));
  ascs = λ c a. asc_append b (asc_append (asc_suc a) d);
}
