-- The edges around a part, its sides and its root edge, as keys; and where the diagonals stand among them in the ascending list of all edges.
use Rattle.std.specs.Prelude.{◌≡◌, List, map, ℕ, suc, ◌+◌, ◌-◌, ◌/◌, ◌<◌, get_or}
use Rattle.std.proofs.Math.Decide.{ℕ_discrete}
use Rattle.lists.specs.Lists.{below, choose}
use Rattle.polygon.specs.Polygon.{◌—◌}
use Rattle.keys.specs.Keys.{key_of}

-- the key of (i,i+1)
abbrev pub side : ℕ → ℕ
side i = key_of (i — suc i)

-- the edges around n corners ascending: the side (0,1), the root edge, the other sides
abbrev pub outline_at : ℕ → ℕ → ℕ
outline_at n i = choose (ℕ_discrete i 1) (n - 1) (side (i - 1))

abbrev pub outline : ℕ → List ℕ
outline n = map (outline_at n) (below n)

-- how many of them come before a diagonal with the lower corner a: the side (0,1) if a is 0, else the root edge too, and the sides up to (a,a+1)
abbrev pub outline_before : ℕ → ℕ
outline_before a = a + 2 - (1 - a)

-- the place of the diagonal j in the list of all edges
abbrev pub place_of : List ℕ → ℕ → ℕ
place_of ks j = j + outline_before (get_or ks j 0 / 1024)

-- of the keys, the first m stand at their places, and nothing elsewhere
pub record Stood (m : ℕ) (ks out : List ℕ) : Type 0 where
  pub there : (j : ℕ) → j < m → get_or out (place_of ks j) 0 ≡ get_or ks j 0
  pub free : (k : ℕ) → ((j : ℕ) → j < m → ¬ (k ≡ place_of ks j)) → get_or out k 0 ≡ 0
