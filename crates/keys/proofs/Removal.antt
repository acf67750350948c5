-- A bend taken out by its key, one step of a pass over the list at a time; bends and edges without one are the same.
use mathlib.Core.Path.{◌≡◌, refl, ap}
use mathlib.Core.List.{List, [], ◌∷◌}
use Prim.Native.Nat.{ℕ, ◌+◌, ◌<◌, ◌≤◌}
use native.Mathlib.Decide.{ℕ_discrete}
use native.Mathlib.Omega.{arith}
use lib.ListN.{length, take, set, get_or, length-set}
use Rattle.lists.specs.Lists.{Mem, Sub, head, keep, not?, put, tail}
use Rattle.lists.proofs.Lists.{keep_sub}
use Rattle.lists.proofs.Kept.{kept_next, kept_past}
use Rattle.polygon.specs.Polygon.{Edge}
use Rattle.polygon.specs.Order.{same?, remove}
use Rattle.keys.specs.Keys.{edge_of, edges_of, key_in, keys_in}
use Rattle.keys.specs.Change.{remove_key}

-- what the loop keeps: the first `left` bends of `out` are those before j without that of k
pub record Removing (k : ℕ) (keys : List ℕ) (size : ℕ) (out : List ℕ) (left j : ℕ) : Type 0 where
  pub upto : j ≤ length keys
  pub low : left ≤ j
  pub kept : length out ≡ size
  pub done : take left out ≡ remove_key k (take j keys)

pub removing_begin : (k : ℕ) (keys out : List ℕ) → Removing k keys (length out) out 0 0
unfolding remove_key keep
removing_begin k keys out = record { upto = omega arith; low = omega arith; kept = refl; done = refl }

module _ {k : ℕ} {keys : List ℕ} {size : ℕ} {out : List ℕ} {left j : ℕ} (R : Removing k keys size out left j) (fits : length keys ≤ size) where
  module _ (more : j < length keys) where
    pub removing_same : key_in (get_or keys j 0) ≡ k → Removing k keys size out left (j + 1)
    unfolding remove_key
    removing_same e = record {
      upto = omega arith;
      low = omega (arith, R.low);
      kept = R.kept;
      done = kept_past (λ b. not? (ℕ_discrete (key_in b) k)) keys out left j 0 more R.done (λ f. f e);
    }

    pub removing_other : ¬ (key_in (get_or keys j 0) ≡ k) → Removing k keys size (set out left (get_or keys j 0)) (left + 1) (j + 1)
    unfolding remove_key
    removing_other f = record {
      upto = omega arith;
      low = omega (arith, R.low);
      kept = simp length-set R.kept;
      done = kept_next (λ b. not? (ℕ_discrete (key_in b) k)) keys out left j 0 more R.done (omega (arith, R.low, R.kept)) f;
    }

-- edges are the same only if their keys are
key_of_edge : (x y : ℕ) → edge_of x ≡ edge_of y → x ≡ y
key_of_edge x y e = omega (arith, ap (λ (p : Edge). p.0) e, ap (λ (p : Edge). p.1) e)

pub remove_edges : (k : ℕ) (bs : List ℕ) → edges_of (keys_in (remove_key k bs)) ≡ remove (edge_of k) (edges_of (keys_in bs))
unfolding remove_key remove keep put not?
remove_edges k [] = refl
remove_edges k (b ∷ bs) = go (ℕ_discrete (key_in b) k) (same? (edge_of (key_in b)) (edge_of k)) (remove_edges k bs)
  where
    go : (d : Dec (key_in b ≡ k)) (e : Dec (edge_of (key_in b) ≡ edge_of k)) → edges_of (keys_in (remove_key k bs)) ≡ remove (edge_of k) (edges_of (keys_in bs))
        → edges_of (keys_in (put (not? d) b (remove_key k bs))) ≡ put (not? e) (edge_of (key_in b)) (remove (edge_of k) (edges_of (keys_in bs)))
    go (yes p) (yes q) h = h
    go (yes p) (no q) h = absurd (q (ap edge_of p))
    go (no p) (yes q) h = absurd (p (key_of_edge (key_in b) k q))
    go (no p) (no q) h = ap (λ (l : List Edge). edge_of (key_in b) ∷ l) h

pub remove_sub : (k : ℕ) (bs : List ℕ) → Sub (remove_key k bs) bs
unfolding remove_key
remove_sub k bs = keep_sub _ bs

-- a key is among the keys exactly if its edge is among the edges
pub mem_edges : (k : ℕ) (ks : List ℕ) → Mem k ks → Mem (edge_of k) (edges_of ks)
mem_edges k (x ∷ ks) (head e) = head (ap edge_of e)
mem_edges k (x ∷ ks) (tail m) = tail (mem_edges k ks m)
mem_edges k [] x' = elim x' [ ]

pub edges_mem : (k : ℕ) (ks : List ℕ) → Mem (edge_of k) (edges_of ks) → Mem k ks
edges_mem k (x ∷ ks) (head e) = head (key_of_edge k x e)
edges_mem k (x ∷ ks) (tail m) = tail (edges_mem k ks m)
edges_mem k [] x' = elim x' [ ]
