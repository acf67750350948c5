-- A test for crossing that looks at each diagonal once: n - 3 diagonals of n corners cross nowhere exactly when each of them passes, and the root edge too.
-- Rests on the third corner of the triangle at an edge (`apex`).
use mathlib.Core.Path.{◌≡◌, refl}
use mathlib.Core.Logic.{◌⊎◌, inl, inr, ◌↔◌}
use mathlib.Core.List.{List}
use Prim.Native.Nat.{ℕ, zero, suc, ◌+◌, ◌≤◌, ◌<◌}
use native.Mathlib.Decide.{dec_lt}
use native.Mathlib.Omega.{arith}
use lib.ListN.{length}
use Rattle.lists.specs.Lists.{All, Mem}
use Rattle.lists.proofs.Lists.{all_mem, all_of}
use Rattle.polygon.specs.Polygon.{Edge, ◌—◌, Ascending, Cross, NoneCross, Diagonal, Triangulated, Linked}
use Rattle.polygon.specs.Tree.{far}
use Rattle.polygon.proofs.Order.{low_of, high_of}
use Rattle.polygon.proofs.Far.{Far, far_ok, far_is}
use Rattle.polygon.proofs.TreeTheorem.{root}
use Rattle.polygon.proofs.Triangle.{ApexWithin, linked_up, links_free}
use Rattle.polygon.proofs.Apex.{apex}

-- the largest corner that c is joined to from below, c + 1 if there is none above it
abbrev pub largest : ℕ → List Edge → ℕ → ℕ
largest n ds c = far c n ds

-- the edge (u,v) passes: its apex c, the largest corner short of v that u is joined to, is joined to v and to none above v
abbrev pub Passes : ℕ → List Edge → Edge → Type 0
Passes n ds e = largest n ds (far e.0 e.1 ds) ≡ e.1

-- where all diagonals pass, none cross; the test of the root edge and the count are not needed
module _ (n : ℕ) (ds : List Edge) (D : All (Diagonal n) ds) (A : All (Passes n ds) ds) where
  -- a corner inside a diagonal is joined to none beyond it
  reach : (k u v : ℕ) → v ≤ u + k → Mem (u — v) ds → (x : ℕ) → u < x → x < v → largest n ds x ≤ v
  reach zero u v h m x i j = absurd (omega arith)
  reach (suc k) u v h m x i j = go (reach k) (dec_lt x c) (dec_lt c x)
    where
      d : Diagonal n (u — v)
      d = all_mem D m

      c : ℕ
      c = far u v ds

      F : Far u v ds c
      F = far_ok u v ds (omega (arith, d))

      e : largest n ds c ≡ v
      e = all_mem A m

      hit : (v ≡ suc c) ⊎ Mem (c — v) ds
      hit = rw e at (far_ok c n ds (omega (arith, d, F.below))).hit

      go : ((u v : ℕ) → v ≤ u + k → Mem (u — v) ds → (x : ℕ) → u < x → x < v → largest n ds x ≤ v) → Dec (x < c) → Dec (c < x) → largest n ds x ≤ v
      go f (yes p) q = elim F.hit [ inl o ↦ absurd (omega (arith, o)) | inr o ↦ omega (arith, f u c (omega (arith, F.below)) o x i p, F.below) ]
      go f (no p) (yes q) = elim hit [ inl o ↦ absurd (omega (arith, o)) | inr o ↦ f c v (omega (arith, F.above)) o x q j ]
      go f (no p) (no q) = let s : x ≡ c = omega arith in rw s (omega (arith, e))

  pub passes_free : NoneCross ds
  passes_free = all_of ds (λ p m. all_of ds (λ q k. clash p q m k))
    where
      clash : (p q : Edge) → Mem p ds → Mem q ds → Cross p q → ⊥
      clash p q m k x =
          let d : Diagonal n q = all_mem D k in
          omega (arith, reach p.1 p.0 p.1 (omega arith) m q.0 x.above x.below, all_mem (far_ok q.0 n ds (omega arith)).most k refl d.corner)

-- in a triangulated polygon all pass, the root edge too
module _ (n : ℕ) (ds : List Edge) (P : Triangulated n ds) where
  linked_of : (e : Edge) → (e ≡ root n) ⊎ Mem e ds → Linked n ds e.0 e.1
  linked_of e (inl q) = inl (inr (low_of q, omega (arith, high_of q, P.full)))
  linked_of e (inr m) = inr m

  passes : (e : Edge) → (e ≡ root n) ⊎ Mem e ds → e.0 + 2 ≤ e.1 → Passes n ds e
  passes e o h = far_is c n ds e.1 (record { above = w.below; below = (linked_up n ds P _ _ L).1; most = all_of ds (λ x m p q. top x m p (dec_lt e.1 x.1)); hit = hit w.right })
    where
      L : Linked n ds e.0 e.1
      L = linked_of e o

      c : ℕ
      c = far e.0 e.1 ds

      w : ApexWithin (Linked n ds) (e.0 — e.1) c
      w = apex n ds P _ _ L (omega arith)

      top : (x : Edge) → Mem x ds → x.0 ≡ c → Dec (e.1 < x.1) → x.1 ≤ e.1
      top x m p (yes q) = absurd (links_free n ds P _ _ _ _ L (inr m) (omega (arith, w.above, w.below)))
      top x m p (no q) = omega arith

      hit : Linked n ds c e.1 → (e.1 ≡ suc c) ⊎ Mem (c — e.1) ds
      hit (inl (inl k)) = inl k.0
      hit (inl (inr k)) = absurd (omega (arith, w.above))
      hit (inr m) = inr m

pub crossing_test : (n : ℕ) (ds : List Edge) → Ascending ds → All (Diagonal n) ds → length ds + 3 ≡ n
    → NoneCross ds ↔ (Passes n ds (root n) × All (Passes n ds) ds)
crossing_test n ds s D h = (λ f. all_pass (record { ascending = s; diagonals = D; none_cross = f; full = h }), λ a. passes_free n ds D a.1)
  where
    all_pass : Triangulated n ds → Passes n ds (root n) × All (Passes n ds) ds
    all_pass P = (passes n ds P (root n) (inl refl) (omega (arith, h)), all_of ds (λ e m. passes n ds P e (inr m) (all_mem D m).forth))
