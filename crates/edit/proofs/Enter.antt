-- One more diagonal in an ascending list of diagonals, and one fewer.
use mathlib.Core.Path.{◌≡◌, refl}
use mathlib.Core.Logic.{◌⊎◌, inl, inr}
use mathlib.Core.List.{List, ◌∷◌}
use Prim.Native.Nat.{ℕ, ◌+◌, ◌≤◌}
use native.Mathlib.Omega.{arith}
use lib.ListN.{length}
use Rattle.lists.specs.Lists.{All, Mem, head}
use Rattle.lists.proofs.Lists.{all_both, all_imp, all_mem, all_self, sorted_same, there}
use Rattle.polygon.specs.Polygon.{Edge, Ascending, Cross, NoneCross, Diagonal, Triangulated}
use Rattle.polygon.specs.Order.{same?, remove, insert}
use Rattle.polygon.proofs.Order.{one_way, remove_all, remove_other, remove_ascending, remove_mem, insert_all, insert_ascending, insert_length, insert_mem}
use Rattle.polygon.proofs.TreeTheorem.{from_enough}

-- an edge other than x, which x does not cross
pub record ApartFrom (x e : Edge) : Type 0 where
  pub other : ¬ (e ≡ x)
  pub over : ¬ Cross e x
  pub under : ¬ Cross x e

-- n - 4 diagonals and one apart from them all triangulate
pub entered : (n : ℕ) (x : Edge) (es : List Edge) → 3 ≤ n → n ≤ length es + 4 → Ascending es → All (Diagonal n) es → NoneCross es → Diagonal n x → All (ApartFrom x) es → Triangulated n (insert x es)
entered n x es b h s d f i a =
    from_enough n (insert x es) b
    (insert_ascending x (all_imp (λ e k. k.other) a) s)
    (insert_all x i d)
    (insert_all x (insert_all x (λ c. omega arith) (all_imp (λ e k. k.under) a)) (all_both (λ e k g. insert_all x k.over g) a f))
    (omega (arith, insert_length x es))

module _ (e : Edge) (es : List Edge) (s : Ascending es) where
  -- what was put in is taken out again
  pub remove_insert : All (λ x. ¬ (x ≡ e)) es → remove e (insert e es) ≡ es
  remove_insert f = sorted_same one_way _ es (remove_ascending e (insert_ascending e f s)) s
      (λ x m. all_mem (all_both old (remove_all e (insert_all e (inl refl) (all_imp (λ y k. inr k) (all_self es)))) (remove_other e (insert e es))) m)
      (λ x m. remove_mem e (insert e es) (insert_mem e es x (there m)) (all_mem f m))
    where
      old : (x : Edge) → (x ≡ e) ⊎ Mem x es → ¬ (x ≡ e) → Mem x es
      old x (inl q) g = absurd (g q)
      old x (inr m) g = m

  -- what was taken out is put in again
  pub insert_remove : Mem e es → insert e (remove e es) ≡ es
  insert_remove m = sorted_same one_way _ es (insert_ascending e (remove_other e es) (remove_ascending e s)) s
      (λ x k. all_mem (insert_all e m (remove_all e (all_self es))) k)
      (λ x k. insert_mem e (remove e es) x (place x k (same? x e)))
    where
      place : (x : Edge) → Mem x es → Dec (x ≡ e) → Mem x (e ∷ remove e es)
      place x k (yes q) = head q
      place x k (no q) = there (remove_mem e es k q)
