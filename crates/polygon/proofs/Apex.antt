-- The third corner of the triangle at any joined u and v. Rests on the triangles at an edge.
use mathlib.Core.Path.{◌≡◌}
use mathlib.Core.Logic.{◌⊎◌, inl, inr}
use mathlib.Core.List.{List}
use Prim.Native.Nat.{ℕ, suc, ◌≤◌, ◌<◌}
use native.Mathlib.Decide.{dec_lt}
use native.Mathlib.Omega.{arith}
use Rattle.lists.specs.Lists.{Mem}
use Rattle.lists.proofs.Lists.{all_of}
use Rattle.polygon.specs.Polygon.{Edge, ◌—◌, Triangulated, Linked}
use Rattle.polygon.specs.Tree.{far}
use Rattle.polygon.proofs.Order.{edge}
use Rattle.polygon.proofs.Far.{far_is}
use Rattle.polygon.proofs.TreeTheorem.{root}
use Rattle.polygon.proofs.Triangle.{ApexWithin, triangle, linked_up, links_free}

module _ (n : ℕ) (ds : List Edge) (P : Triangulated n ds) where
  edge_of_lem : (u v : ℕ) → Linked n ds u v → suc u < v → ((u — v) ≡ root n) ⊎ Mem (u — v) ds
  edge_of_lem u v (inl (inl k)) h = absurd (omega arith)
  edge_of_lem u v (inl (inr k)) h = inl (edge k.0 (omega (arith, k)))
  edge_of_lem u v (inr m) h = inr m

  apex_far : (u v c : ℕ) → Linked n ds u v → ApexWithin (Linked n ds) (u — v) c → far u v ds ≡ c
  apex_far u v c L w = far_is u v ds c (record { above = w.above; below = w.below; most = all_of ds (λ e m p q. most e m p q (dec_lt c e.1)); hit = hit w.left })
    where
      most : (e : Edge) → Mem e ds → e.0 ≡ u → e.1 < v → Dec (c < e.1) → e.1 ≤ c
      most e m p q (yes h) = absurd (links_free n ds P _ _ _ _ (inr m) w.right (omega (arith, w.above)))
      most e m p q (no h) = omega arith

      hit : Linked n ds u c → (c ≡ suc u) ⊎ Mem (u — c) ds
      hit (inl (inl k)) = inl k.0
      hit (inl (inr k)) = absurd (omega (arith, linked_up n ds P _ _ L, w.below))
      hit (inr m) = inr m

  -- the third corner of the triangle at a joined pair is joined to both
  pub apex : (u v : ℕ) → Linked n ds u v → suc u < v → ApexWithin (Linked n ds) (u — v) (far u v ds)
  apex u v L h = let (c, w) = triangle n ds P (u — v) (edge_of_lem u v L h) in rw (apex_far u v c L w) w
