-- The six values of an edge as the code holds them, and the table that keeps them for each edge of the tree.
use Rattle.std.specs.Prelude.{◌≡◌, List, ℕ, suc, ◌+◌, ◌*◌, ◌-◌, ◌≤◌, ◌<◌, max, min, length, get_or, set, take}
use Rattle.polygon.specs.Polygon.{◌—◌, Polygon}
use Rattle.polygon.specs.Tree.{Tree, leaf, node, piece}
use Rattle.umbrella.specs.Values.{handle, ud, fan_of_a, fan_of_b, partial_of_a, partial_of_b}
use Rattle.polygon.specs.Edges.{edges}
use Rattle.keys.specs.Keys.{edges_of}
use Rattle.tree.specs.declared.Root.{Root}
use Rattle.tree.specs.Table.{edge_at, right_edge, TreeAt, Whole}
use Rattle.levels.specs.declared.Six.{Six}

-- the values of an edge by the piece on it
abbrev pub six : Tree → Six
six t = record { handle = handle t; fan_a = fan_of_a t; fan_b = fan_of_b t; partial_a = partial_of_a t; partial_b = partial_of_b t; ud = ud t }

-- the values of (a,b) from those of (a,c), (c,b), (d,c) and (c,e) (`six_node` in proofs/Joining.antt: these are those of the piece)
abbrev pub join : Six → Six → Six → Six → Six
join ac cb dc ce =
    let fa = max ac.fan_a dc.ud in
    let fb = max cb.fan_b ce.ud in
    let pa = min (max ac.partial_a dc.ud) (max ac.fan_a dc.handle) in
    let pb = min (max cb.partial_b ce.ud) (max cb.fan_b ce.handle) in
    record {
      handle = min (max ac.handle cb.ud) (max cb.handle ac.ud);
      fan_a = fa;
      fan_b = fb;
      partial_a = pa;
      partial_b = pb;
      ud = min (max pa fb) (max pb fa) + 1;
    }

-- an edge without levels is a side: its values are 0, and so are those taken from beyond it
abbrev pub SideZero : Six → Six → Type 0
SideZero own beyond = own.ud ≡ 0 → (own ≡ six leaf) × (beyond ≡ six leaf)

-- the values at the edge e of a table, and the table with others there
abbrev pub six_at : List ℕ → ℕ → Six
six_at ds e = record {
  handle = get_or ds (6 * e) 0;
  fan_a = get_or ds (6 * e + 1) 0;
  fan_b = get_or ds (6 * e + 2) 0;
  partial_a = get_or ds (6 * e + 3) 0;
  partial_b = get_or ds (6 * e + 4) 0;
  ud = get_or ds (6 * e + 5) 0;
}

abbrev pub with_six : List ℕ → ℕ → Six → List ℕ
with_six ds e s = set (set (set (set (set (set ds (6 * e) s.handle) (6 * e + 1) s.fan_a) (6 * e + 2) s.fan_b) (6 * e + 3) s.partial_a) (6 * e + 4) s.partial_b) (6 * e + 5) s.ud

-- each in a byte: no part needs more than 9 levels
pub record Small (s : Six) : Type 0 where
  pub handle_small : s.handle ≤ 9
  pub fan_a_small : s.fan_a ≤ 9
  pub fan_b_small : s.fan_b ≤ 9
  pub partial_a_small : s.partial_a ≤ 9
  pub partial_b_small : s.partial_b ≤ 9
  pub ud_small : s.ud ≤ 9

-- every edge of the piece t at e has its values in the table
pub data Deep (tr ds : List ℕ) : ℕ → Tree → Type 0 where
  flat : {e : ℕ} → six_at ds e ≡ six leaf → Deep tr ds e leaf
  deep : {e : ℕ} {l r : Tree} → six_at ds e ≡ six (node l r) → Deep tr ds (e - 1) l → Deep tr ds (right_edge tr e) r → Deep tr ds e (node l r)

-- values that are right in the table ds are right in the table ds'
pub record Grows (tr ds ds' : List ℕ) : Type 0 where
  pub right : (e u v : ℕ) (t : Tree) → TreeAt tr e u v t → six_at ds e ≡ six t → six_at ds' e ≡ six t

-- those of the sides are right
pub record Leaves (tr ds : List ℕ) : Type 0 where
  pub sides : (e u v : ℕ) → TreeAt tr e u v leaf → six_at ds e ≡ six leaf

-- the table shows the piece t at e, and holds the values of each of its edges
pub record Tabled (tr ds : List ℕ) (e u v : ℕ) (t : Tree) : Type 0 where
  pub shows : TreeAt tr e u v t
  pub deep : Deep tr ds e t

-- the piece `node l r` is on the edge e, and the edges of its two parts have their values
pub record PartsHeld (tr ds : List ℕ) (e : ℕ) (l r : Tree) : Type 0 where
  pub u : ℕ
  pub v : ℕ
  pub shows : TreeAt tr e u v (node l r)
  pub deep_l : Deep tr ds (e - 1) l
  pub deep_r : Deep tr ds (right_edge tr e) r

-- tables that are not filled yet
pub record Blank (tr ds : List ℕ) : Type 0 where
  pub no_edges : (i : ℕ) → get_or tr i 0 ≡ 0
  pub no_values : (i : ℕ) → get_or ds i 0 ≡ 0

-- the tables of a part with n corners and the tree t, p being the whole part
pub record Filled (n : ℕ) (t : Tree) (tr ds : List ℕ) (p : Root) : Type 0 where
  pub kept : length tr ≡ 3072
  pub listed : edges_of (take (2 * n - 3) tr) ≡ edges 0 t
  pub rest : (j : ℕ) → 2 * n - 3 ≤ j → j < 2048 → get_or tr j 0 ≡ 0
  pub whole : Whole n t tr p
  pub deep : Deep tr ds p.e t

-- What is claimed of an edge (a,b) of the part p, a side or the root edge too, and proved in proofs/Theorems.antt:
-- it stands among the edges listed ascending, and its values at its place.
pub record KeptAt (p : Polygon) (tr ds : List ℕ) (a b : ℕ) : Type 0 where
  pub place : ℕ
  pub listed : place < 2 * p.n - 3
  pub edge : edge_at tr place ≡ a — b
  pub values : six_at ds place ≡ six (piece p.ds a b)

-- On the way down from the piece t₀ at e₀: the edges passed stand in the path, from a place on, and the part that was not gone into has its values.
-- After k places of the path the piece t at e is reached.
pub data Passed (tr ds path : List ℕ) (from e₀ : ℕ) (t₀ : Tree) : (k e : ℕ) → Tree → Type 0 where
  begun : {k e : ℕ} {t : Tree} → k ≡ from → e ≡ e₀ → t ≡ t₀ → Passed tr ds path from e₀ t₀ k e t
  left : {j k e u v : ℕ} {l r : Tree} → k ≡ suc j → Passed tr ds path from e₀ t₀ j e (node l r) → TreeAt tr e u v (node l r) → get_or path j 0 ≡ e → Deep tr ds (right_edge tr e) r → Passed tr ds path from e₀ t₀ k (e - 1) l
  right : {j k e u v : ℕ} {l r : Tree} → k ≡ suc j → Passed tr ds path from e₀ t₀ j e (node l r) → TreeAt tr e u v (node l r) → get_or path j 0 ≡ e → Deep tr ds (e - 1) l → Passed tr ds path from e₀ t₀ k (right_edge tr e) r

-- the piece reached has its values
pub record Rising (tr ds path : List ℕ) (from e₀ : ℕ) (t₀ : Tree) (k : ℕ) : Type 0 where
  pub e : ℕ
  pub t : Tree
  pub passed : Passed tr ds path from e₀ t₀ k e t
  pub deep : Deep tr ds e t
