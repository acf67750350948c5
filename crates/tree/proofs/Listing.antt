-- The sides, the root edge and the diagonals of a part in one ascending list are the edges of its tree.
use mathlib.Core.Path.{◌≡◌, refl, sym, ◌∙◌, ap, ap₂, subst}
use mathlib.Core.Logic.{inl, inr}
use mathlib.Core.List.{List, ◌++◌, map-append}
use Prim.Native.Nat.{ℕ, suc, ◌+◌, ◌-◌, ◌<◌, ◌≤◌}
use native.Mathlib.Omega.{arith}
use native.Mathlib.Decide.{ℕ_discrete}
use Rattle.lists.specs.Lists.{Mem, All, below}
use Rattle.lists.proofs.Lists.{mem_left, mem_right, mem_map, all_append, all_map, all_imp, all_mem, all_of, all_self, sorted_append, sorted_map}
use Rattle.lists.proofs.Places.{numbers_in, below_sorted, below_mem}
use Rattle.polygon.specs.Polygon.{Edge, ◌—◌, Before, Ascending, Side, Diagonal, Linked, Triangulated}
use Rattle.polygon.specs.Order.{Distinct, sort}
use Rattle.polygon.specs.Tree.{tree_of}
use Rattle.polygon.specs.Edges.{edges}
use Rattle.polygon.proofs.Order.{edge, low_of, high_of}
use Rattle.polygon.proofs.Sort.{sort_is, distinct_of}
use Rattle.polygon.proofs.TreeTheorem.{TreeIs, tree_of_lem}
use Rattle.polygon.proofs.Edges.{edges_linked, edges_ascending}
use Rattle.keys.specs.Keys.{edge_of, edges_of}
use Rattle.keys.specs.Sort.{sort_keys, merge}
use Rattle.keys.proofs.Insert.{merge_sorts}
use Rattle.keys.proofs.InOrder.{edge_of_key, sort_edges, ascends_same, edges_ascend}
use Rattle.tree.specs.Outline.{side, outline_at, outline}
use Rattle.tree.proofs.Outline.{root_edge, side_edge}

-- an ascending list of keys is sorted
in_order : (ks : List ℕ) → Ascending (edges_of ks) → ks ≡ sort_keys ks
in_order ks s = sym (ascends_same ks (edges_ascend ks s))

module _ (n : ℕ) (least : 3 ≤ n) (small : n ≤ 1024) where
  -- the edges around n corners are its sides and the root edge
  around : (i : ℕ) → i < n → Side n (edge_of (outline_at n i)).0 (edge_of (outline_at n i)).1
  around i h = go (ℕ_discrete i 1)
    where
      go : Dec (i ≡ 1) → Side n (edge_of (outline_at n i)).0 (edge_of (outline_at n i)).1
      go (yes e) = rw (root_edge n i e) (inr (omega arith, omega arith))
      go (no e) = rw (side_edge n i e) (inl (omega arith, omega arith))

  outline_sides : All (λ e. Side n e.0 e.1) (edges_of (outline n))
  unfolding below
  outline_sides = all_map edge_of (all_map (outline_at n) (all_imp (λ i p. around i (omega arith)) (numbers_in n 0)))

  -- ascending
  later : (i j : ℕ) → i < n → j < n → i < j → Before (edge_of (outline_at n i)) (edge_of (outline_at n j))
  later i j h k l = go (ℕ_discrete i 1) (ℕ_discrete j 1)
    where
      go : Dec (i ≡ 1) → Dec (j ≡ 1) → Before (edge_of (outline_at n i)) (edge_of (outline_at n j))
      go (yes e) (yes f) = absurd (omega arith)
      go (yes e) (no f) = rw (root_edge n i e, side_edge n j f) (inl (omega arith))
      go (no e) (yes f) = rw (side_edge n i e, root_edge n j f) (inr (omega arith, omega arith))
      go (no e) (no f) = rw (side_edge n i e, side_edge n j f) (inl (omega arith))

  outline_ascends : Ascending (edges_of (outline n))
  unfolding below
  outline_ascends =
      sorted_map {R = λ x y. Before (edge_of x) (edge_of y)} {P = λ x. Unit {0}} edge_of (λ x y p q l. l) (all_of _ (λ x m. tt))
      (sorted_map {P = λ i. (0 ≤ i) × (i < 0 + n)} (outline_at n) (λ i j p q l. later i j (omega arith) (omega arith) l) (numbers_in n 0) (below_sorted n))

module _ (n : ℕ) (ks : List ℕ) (P : Triangulated n (edges_of ks)) (small : n ≤ 1024) where
  least : 3 ≤ n
  least = omega (arith, P.full)

  -- all keys, and their edges
  abbrev all : List ℕ
  all = outline n ++ ks

  abbrev parts : List Edge
  parts = edges_of (outline n) ++ edges_of ks

  distinct : Distinct parts
  distinct =
      sorted_append {P = λ e. Side n e.0 e.1} {Q = Diagonal n} (λ x y p d e. elim p [ inl s ↦ omega (arith, low_of e, high_of e, d.forth) | inr s ↦ omega (arith, low_of e, high_of e, d.back) ])
      (distinct_of (outline_ascends n least small)) (distinct_of P.ascending) (outline_sides n least small) P.diagonals

  T : TreeIs n (edges_of ks) (tree_of n (edges_of ks))
  T = tree_of_lem n (edges_of ks) P

  linked : All (λ e. Linked n (edges_of ks) e.0 e.1) parts
  linked = all_append (all_imp (λ e s. inl s) (outline_sides n least small)) (all_imp (λ e m. inr m) (all_self (edges_of ks)))

  listed : (e : Edge) → Linked n (edges_of ks) e.0 e.1 → Mem e parts
  listed e (inl (inl s)) =
      let i : ℕ = e.0 + 1 - (1 - e.0) in
      let p : i - 1 ≡ e.0 = omega arith in
      let h : edge_of (outline_at n i) ≡ e = ap edge_of (side_edge n i (λ q. omega arith) ∙ ap side p) ∙ (edge_of_key (e.0 — suc e.0) (omega arith) ∙ sym (edge refl s.0)) in
      mem_left (edges_of ks) (subst (λ (x : Edge). Mem x (edges_of (outline n))) h (mem_map edge_of (mem_map (outline_at n) (below_mem n i (omega arith)))))
  listed e (inl (inr s)) =
      let h : edge_of (outline_at n 1) ≡ e = ap edge_of (root_edge n 1 refl) ∙ sym (edge {e = e} (omega arith) (omega arith)) in
      mem_left (edges_of ks) (subst (λ (x : Edge). Mem x (edges_of (outline n))) h (mem_map edge_of (mem_map (outline_at n) (below_mem n 1 (omega (arith, least))))))
  listed e (inr m) = mem_right (edges_of (outline n)) m

  -- merged with the diagonals they are the edges of the tree
  pub edges_listed : edges_of (merge (outline n) ks) ≡ edges 0 (tree_of n (edges_of ks))
  edges_listed =
      let L = edges_linked n (edges_of ks) (tree_of n (edges_of ks)) (omega (arith, P.full)) T in
      let a : merge (outline n) ks ≡ sort_keys all = ap₂ merge (in_order (outline n) (outline_ascends n least small)) (in_order ks P.ascending) ∙ merge_sorts (outline n) ks in
      ap edges_of a ∙ (sort_edges all ∙ (ap sort (map-append edge_of (outline n) ks)
      ∙ sort_is parts (edges 0 (tree_of n (edges_of ks))) distinct (edges_ascending 0 (tree_of n (edges_of ks))) (λ e m. (L e).1 (all_mem linked m)) (λ e m. listed e ((L e).0 m))))
