-- The table that the code fills shows the tree of the whole part.
use mathlib.Core.Path.{◌≡◌, refl, sym, ◌∙◌, ap}
use mathlib.Core.List.{List}
use Prim.Native.Nat.{ℕ, ◌+◌, ◌*◌, ◌-◌, ◌≤◌, ◌<◌}
use native.Mathlib.Omega.{arith}
use lib.ListN.{length, take, get_or, get_or-map}
use lib.Seq.{get_or-take, take-take, length-take-le}
use Rattle.polygon.specs.Polygon.{Edge, ◌—◌, Triangulated}
use Rattle.polygon.specs.Edges.{edges}
use Rattle.polygon.specs.Tree.{Tree, span, tree_of}
use Rattle.polygon.proofs.Edges.{edges_in_lem, edges_count}
use Rattle.polygon.proofs.TreeTheorem.{tree_of_lem}
use Rattle.keys.specs.Keys.{edge_of, edges_of}
use Rattle.tree.specs.Table.{edge_at, Lasts, Whole}
use Rattle.keys.proofs.InOrder.{edges_at}
use Rattle.tree.proofs.Table.{shows_all}

-- the places before 2,048 are kept: those of the first m edges, and those behind them
pub kept_front : (m : ℕ) (l o : List ℕ) → m ≤ 2048 → take 2048 l ≡ take 2048 o → take m l ≡ take m o
kept_front m l o h e = sym (take-take m 2048 l h) ∙ (ap (take m) e ∙ take-take m 2048 o h)

pub kept_rest : (j : ℕ) (l o : List ℕ) → j < 2048 → take 2048 l ≡ take 2048 o → get_or l j 0 ≡ get_or o j 0
kept_rest j l o k e = sym (get_or-take 2048 l j 0 k) ∙ (ap (λ (x : List ℕ). get_or x j 0) e ∙ get_or-take 2048 o j 0 k)

-- the keys are of edges of n corners, at most 1,024
pub keyed : {n : ℕ} (t : Tree) (tr : List ℕ) → span t + 1 ≡ n → n ≤ 1024 → 2 * n - 3 ≤ length tr → edges_of (take (2 * n - 3) tr) ≡ edges 0 t → (j : ℕ) → j < 2 * n - 3 → get_or tr j 0 < 1047552
keyed {n} t tr size small room E j h =
    let b = edges_at {Q = λ e. (0 ≤ e.0) × (e.0 < e.1) × (e.1 ≤ 0 + span t)} (take (2 * n - 3) tr) (rw E (edges_in_lem 0 t)) j (omega (arith, length-take-le (2 * n - 3) tr room)) in
    omega (arith, b, get_or-take (2 * n - 3) tr j 0 h)

module _ (n : ℕ) (ks : List ℕ) (P : Triangulated n (edges_of ks)) (small : n ≤ 1024) (tr : List ℕ) (room : length tr ≡ 3072) (E : edges_of (take (2 * n - 3) tr) ≡ edges 0 (tree_of n (edges_of ks))) where
  abbrev t : Tree
  t = tree_of n (edges_of ks)

  size : span t + 1 ≡ n
  size = omega (arith, (tree_of_lem n (edges_of ks) P).size, P.full)

  stands : (i : ℕ) → i < length (edges 0 t) → edge_at tr i ≡ get_or (edges 0 t) i (0 — 0)
  stands i h =
      ap edge_of (sym (get_or-take (2 * n - 3) tr i 0 (omega (arith, edges_count 0 t, size))))
      ∙ (sym (get_or-map edge_of (take (2 * n - 3) tr) i 0) ∙ ap (λ (l : List Edge). get_or l i (0 — 0)) E)

  pub whole : Lasts (2 * n - 3) tr → (e : ℕ) → e ≡ get_or tr 2048 0 → Whole n t tr (record { e = e; u = 0; v = n - 1 })
  whole f e q = record { lower = refl; upper = refl; shows = rw (q, v) (shows_all (2 * n - 3) tr (omega arith) f t (omega (arith, size)) (omega (arith, edges_count 0 t, size)) stands) }
    where
      v : n - 1 ≡ 0 + span t
      v = omega (arith, size)
