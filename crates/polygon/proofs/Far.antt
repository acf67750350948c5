-- What `far` computes, said as a property of a corner: `far` has it (`far_ok`), and no other corner has (`far_is`).
use mathlib.Core.Path.{◌≡◌, refl, sym}
use mathlib.Core.Logic.{◌⊎◌, inl, inr}
use mathlib.Core.List.{List, [], ◌∷◌}
use Prim.Native.Nat.{ℕ, suc, ◌≤◌, ◌<◌, max}
use native.Mathlib.Decide.{dec_le}
use native.Mathlib.Nat.{max-eq_right}
use native.Mathlib.Omega.{arith}
use Rattle.lists.specs.Lists.{All, Mem, all_cons, all_nil, head}
use Rattle.lists.proofs.Lists.{all_imp, all_mem, there}
use Rattle.polygon.specs.Polygon.{Edge, ◌—◌}
use Rattle.polygon.specs.Tree.{near?, farther, far}
use Rattle.polygon.proofs.Order.{edge}

-- c is the largest corner below v such that c = u + 1 or (u,c) is in the list
pub record Far (u v : ℕ) (es : List Edge) (c : ℕ) : Type 0 where
  pub above : u < c
  pub below : c < v
  pub most : All (λ e. e.0 ≡ u → e.1 < v → e.1 ≤ c) es
  pub hit : (c ≡ suc u) ⊎ Mem (u — c) es

farther_ok : (u v : ℕ) (e : Edge) (es : List Edge) (n : ℕ) → Far u v es n → (d : Dec ((e.0 ≡ u) × (e.1 < v))) → Far u v (e ∷ es) (farther d e.1 n)
unfolding farther
farther_ok u v e es n F (yes d) = record {
  above = omega (arith, F.above);
  below = omega (arith, F.below);
  most = all_cons {x = e} (λ i j. omega arith) (all_imp (λ x h i j. omega (arith, h i j)) F.most);
  hit = go (dec_le e.1 n) F.hit;
}
  where
    go : Dec (e.1 ≤ n) → (n ≡ suc u) ⊎ Mem (u — n) es → (max e.1 n ≡ suc u) ⊎ Mem (u — (max e.1 n)) (e ∷ es)
    go (yes p) (inl q) = inl (omega arith)
    go (yes p) (inr m) = inr (rw (max-eq_right p) (there m))
    go (no p) q = inr (head (sym (edge {e = e} (omega arith) (omega arith))))
farther_ok u v e es n F (no d) = record { above = F.above; below = F.below; most = all_cons {x = e} (λ i j. absurd (d (i, j))) F.most; hit = go F.hit }
  where
    go : (n ≡ suc u) ⊎ Mem (u — n) es → (n ≡ suc u) ⊎ Mem (u — n) (e ∷ es)
    go (inl q) = inl q
    go (inr m) = inr (there m)

pub far_ok : (u v : ℕ) (es : List Edge) → suc u < v → Far u v es (far u v es)
unfolding far
far_ok u v [] h = record { above = omega arith; below = h; most = all_nil; hit = inl refl }
far_ok u v (e ∷ es) h = farther_ok u v e es (far u v es) (far_ok u v es h) (near? u v e)

-- one corner only: whatever computes such a corner computes far
below_far : (u v : ℕ) (es : List Edge) (c f : ℕ) → Far u v es c → Far u v es f → (c ≡ suc u) ⊎ Mem (u — c) es → c ≤ f
below_far u v es c f C F (inl q) = omega (arith, F.above)
below_far u v es c f C F (inr m) = all_mem F.most m refl C.below

pub far_is : (u v : ℕ) (es : List Edge) (c : ℕ) → Far u v es c → far u v es ≡ c
far_is u v es c C =
    let F : Far u v es (far u v es) = far_ok u v es (omega (arith, C.above, C.below)) in
    omega (arith, below_far u v es c _ C F C.hit, below_far u v es _ c F C F.hit)
