-- Tables over the corners and the diagonals of a polygon, and the linear test for crossing on them.
use Rattle.std.specs.Prelude.{◌≡◌, List, ℕ, suc, ◌%◌, ◌<◌, length, get_or}
use Rattle.lists.specs.Lists.{All}
use Rattle.polygon.specs.Polygon.{Edge, ◌—◌, Ascending, Diagonal}
use Rattle.polygon.specs.Tree.{far}

-- different diagonals of n corners, ascending
pub record Diagonals (n : ℕ) (ds : List Edge) : Type 0 where
  pub ascending : Ascending ds
  pub diagonals : All (Diagonal n) ds

-- for each corner but the last two ends of the outline, the farthest corner that it is joined to from below
abbrev pub Tops : ℕ → List Edge → List ℕ → Type 0
Tops n ds top = (c : ℕ) → suc c < n → get_or top c 0 ≡ far c n ds

-- the apex of the triangle below an edge
abbrev pub apex_of : List Edge → Edge → ℕ
apex_of ds e = far e.0 e.1 ds

-- for each diagonal its apex
abbrev pub Apexes : List Edge → List ℕ → Type 0
Apexes ds apex = (j : ℕ) → j < length ds → get_or apex j 0 ≡ apex_of ds (get_or ds j (0 — 0))

-- the apex of each diagonal reaches as far as its higher corner; that of some does not
abbrev pub Reaches : List ℕ → List ℕ → List ℕ → Type 0
Reaches keys top apex = (j : ℕ) → j < length keys → get_or top (get_or apex j 0) 0 ≡ get_or keys j 0 % 1024

abbrev pub Fails : List ℕ → List ℕ → List ℕ → Type 0
Fails keys top apex = (j : ℕ) × (j < length keys) × (get_or top (get_or apex j 0) 0 ≡ get_or keys j 0 % 1024 → ⊥)
