-- A triangulated polygon is a tree, and one only (`tree_of_lem`, `tree_unique`); every tree of span 2 or more is one (`tree_triangulates`).
-- By the way: diagonals of n corners, none crossing, are at most n - 3 (`bound`), so that n - 3 is enough to triangulate (`from_enough`).
use mathlib.Core.Path.{◌≡◌, refl, sym}
use mathlib.Core.Logic.{◌⊎◌, inl, inr}
use mathlib.Core.List.{List}
use Prim.Native.Nat.{ℕ, suc, ◌+◌, ◌-◌, ◌≤◌}
use native.Mathlib.Omega.{arith}
use lib.ListN.{length}
use Rattle.lists.specs.Lists.{All, Mem}
use Rattle.lists.proofs.Lists.{all_both, all_imp, all_mem, all_of, all_self, sorted_same, there}
use Rattle.polygon.specs.Polygon.{Edge, ◌—◌, Ascending, NoneCross, Diagonal, Triangulated}
use Rattle.polygon.specs.Order.{insert}
use Rattle.polygon.specs.Tree.{Tree, leaf, node, span, chords, inner, tree_of}
use Rattle.polygon.proofs.Order.{low_of, high_of, one_way, insert_all, insert_ascending, insert_length, insert_mem}
use Rattle.polygon.proofs.Chords.{span_pos, chords_in, chords_free, inner_chords, inner_left, inner_right, inner_ascending, inner_count, all_inner, node_cases, InPieces}
use Rattle.polygon.proofs.Every.{Chords, at_most, every}
use Rattle.polygon.proofs.TreeOf.{grow_ok}

-- the root edge of n corners
abbrev pub root : ℕ → Edge
root n = 0 — (n - 1)

-- t is the tree of the polygon
pub record TreeIs (n : ℕ) (ds : List Edge) (t : Tree) : Type 0 where
  pub size : suc (span t) ≡ n
  pub same : inner 0 t ≡ ds

-- diagonals of n corners, none crossing: with the root edge they are chords of 0 .. n - 1
module _ (n : ℕ) (ds : List Edge) (big : 3 ≤ n) (s : Ascending ds) (d : All (Diagonal n) ds) (f : NoneCross ds) where
  with_root : Chords 0 (n - 1) (insert (root n) ds)
  with_root = record {
    ascending = insert_ascending (root n) (all_imp (λ e k q. omega (arith, low_of q, high_of q)) d) s;
    within = insert_all (root n) (omega arith) (all_imp (λ e k. omega arith) d);
    none_cross = insert_all (root n) (insert_all (root n) (λ x. omega arith) (all_imp (λ e k x. omega arith) d)) (all_both (λ p k g. insert_all (root n) (λ x. omega arith) g) d f);
  }

  pub bound : length ds + 3 ≤ n
  bound = omega (arith, at_most 0 (n - 1) (insert (root n) ds) (omega arith) with_root, insert_length (root n) ds)

  pub from_enough : n ≤ length ds + 3 → Triangulated n ds
  from_enough h = record { ascending = s; diagonals = d; none_cross = f; full = omega (arith, bound) }

-- every tree is a triangulated polygon
inner_diagonals : (l r : Tree) → All (Diagonal (suc (span (node l r)))) (inner 0 (node l r))
unfolding span
inner_diagonals l r =
    let p = span_pos l in
    let q = span_pos r in
    all_inner _ 0 l r (all_imp (λ e h. omega arith) (chords_in 0 l)) (all_imp (λ e h. omega arith) (chords_in (0 + span l) r))

pub tree_triangulates : (t : Tree) → 2 ≤ span t → Triangulated (suc (span t)) (inner 0 t)
unfolding span
tree_triangulates leaf h = absurd (omega arith)
tree_triangulates (node l r) h = record {
  ascending = inner_ascending 0 (node l r);
  diagonals = inner_diagonals l r;
  none_cross = all_of _ (λ p m. all_of _ (λ q k. all_mem (all_mem (chords_free 0 (node l r)) (inner_chords 0 l r p m)) (inner_chords 0 l r q k)));
  full = omega (arith, inner_count 0 l r);
}

-- every triangulated polygon is a tree
inner_is : (n : ℕ) (ds : List Edge) (l r : Tree) → Triangulated n ds → suc (span (node l r)) ≡ n → insert (root n) ds ≡ chords 0 (node l r) → inner 0 (node l r) ≡ ds
unfolding span
inner_is n ds l r P h e = sorted_same one_way _ ds (inner_ascending 0 (node l r)) P.ascending
    (λ x m. complete x m (all_mem cases (rw (sym e) at (inner_chords 0 l r x m))))
    (λ x m. sound x m (node_cases 0 l r x (rw e at (insert_mem (root n) ds x (there m)))))
  where
    cases : All (λ x. (x ≡ root n) ⊎ Mem x ds) (insert (root n) ds)
    cases = insert_all (root n) (inl refl) (all_imp (λ x m. inr m) (all_self ds))

    complete : (x : Edge) → Mem x (inner 0 (node l r)) → (x ≡ root n) ⊎ Mem x ds → Mem x ds
    complete x m (inl q) = absurd (let d = all_mem (inner_diagonals l r) m in omega (arith, low_of q, high_of q))
    complete x m (inr k) = k

    sound : (x : Edge) → Mem x ds → (x ≡ 0 — (0 + (span l + span r))) ⊎ InPieces 0 l r x → Mem x (inner 0 (node l r))
    sound x m (inl q) = absurd (let d = all_mem P.diagonals m in omega (arith, low_of q, high_of q))
    sound x m (inr (inl k)) = inner_left 0 l r x k
    sound x m (inr (inr k)) = inner_right 0 l r x k

exists : (n : ℕ) (ds : List Edge) → Triangulated n ds → (t : Tree) × TreeIs n ds t
unfolding span
exists n ds P =
    let big : 3 ≤ n = omega (arith, P.full) in
    let (t, h, e) = every 0 (n - 1) (insert (root n) ds) (omega arith) (with_root n ds big P.ascending P.diagonals P.none_cross) (omega (arith, insert_length (root n) ds, P.full)) in
    go t h e
  where
    go : (t : Tree) → 0 + span t ≡ n - 1 → insert (root n) ds ≡ chords 0 t → (t : Tree) × TreeIs n ds t
    go leaf h e = absurd (omega (arith, P.full))
    go (node l r) h e = let k : suc (span l + span r) ≡ n = omega (arith, P.full) in (node l r, record { size = k; same = inner_is n ds l r P k e })

-- one tree only: the one that tree_of computes
pub tree_unique : (n : ℕ) (ds : List Edge) (t : Tree) → 3 ≤ n → TreeIs n ds t → tree_of n ds ≡ t
unfolding tree_of
tree_unique n ds t h T =
    let X : NoneCross ds = rw T.same at (tree_triangulates t (omega (arith, T.size))).none_cross in
    let e : n - 1 ≡ 0 + span t = omega (arith, T.size) in
    rw e (grow_ok ds X n t 0 (omega (arith, T.size)) (λ x m. rw T.same at m))

pub tree_of_lem : (n : ℕ) (ds : List Edge) → Triangulated n ds → TreeIs n ds (tree_of n ds)
tree_of_lem n ds P = let (t, T) = exists n ds P in rw (tree_unique n ds t (omega (arith, P.full)) T) T
