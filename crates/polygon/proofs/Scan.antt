-- The crossing test in one pass over the ascending list: the apex of a diagonal is the farthest corner that the diagonals before it give (`apex_before`),
-- and the table of farthest corners changes at one place with each diagonal (`far_same`, `far_other`).
use mathlib.Core.Path.{◌≡◌, refl, ap}
use mathlib.Core.Logic.{◌⊎◌, inl, inr}
use mathlib.Core.List.{List, [], ◌∷◌, ◌++◌}
use Prim.Native.Nat.{ℕ, suc, ◌≤◌, ◌<◌}
use native.Mathlib.Omega.{arith}
use Rattle.lists.specs.Lists.{All, Mem, all_cons, all_nil, sorted_cons}
use Rattle.lists.proofs.Lists.{all_append, all_both, all_imp, all_left, all_mem, here, mem_left, mem_right, sorted_across, sorted_right}
use Rattle.polygon.specs.Polygon.{Edge, ◌—◌, Before, Ascending, Diagonal}
use Rattle.polygon.specs.Tree.{near?, farther, far}
use Rattle.polygon.proofs.Far.{Far, far_ok, far_is}

module _ (n u v : ℕ) (xs ys : List Edge) (s : Ascending (xs ++ ((u — v) ∷ ys))) (D : All (Diagonal n) (xs ++ ((u — v) ∷ ys))) where
  short : (c : ℕ) → (c ≡ suc u) ⊎ Mem (u — c) xs → Diagonal n (u — v) → c < v
  short c (inl q) d = omega arith
  short c (inr m) d = go (all_mem (sorted_across xs ys s) m)
    where
      go : Before (u — c) (u — v) → c < v
      go (inl h) = absurd (omega arith)
      go (inr h) = h.1

  late : (e : Edge) → Before (u — v) e → e.0 ≡ u → e.1 < v → e.1 ≤ far u n xs
  late e (inl h) p q = absurd (omega arith)
  late e (inr h) p q = absurd (omega arith)

  pub apex_before : far u v (xs ++ ((u — v) ∷ ys)) ≡ far u n xs
  apex_before = far_is u v _ _ (go (all_mem D (mem_right xs here)) (sorted_right xs s))
    where
      go : Diagonal n (u — v) → Ascending ((u — v) ∷ ys) → Far u v (xs ++ ((u — v) ∷ ys)) (far u n xs)
      go d (sorted_cons o t) =
          let F : Far u n xs (far u n xs) = far_ok u n xs (omega arith) in
          record {
            above = F.above;
            below = short _ F.hit d;
            most = all_append (all_both (λ e k i p q. k p i.corner) F.most (all_left xs _ D)) (all_cons {x = u — v} (λ p q. absurd (omega arith)) (all_imp late o));
            hit = elim F.hit [ inl q ↦ inl q | inr m ↦ inr (mem_left _ m) ];
          }

-- one more entry: the table of farthest corners changes at its lower corner, to its higher one, and nowhere else
pub far_same : (n u v : ℕ) (xs : List Edge) → Ascending (xs ++ ((u — v) ∷ [])) → Diagonal n (u — v) → far u n (xs ++ ((u — v) ∷ [])) ≡ v
far_same n u v xs s d = far_is u n _ v (record {
  above = omega arith;
  below = d.corner;
  most = all_append (all_imp before (sorted_across xs [] s)) (all_cons {x = u — v} (λ p q. omega arith) all_nil);
  hit = inr (mem_right xs here);
})
  where
    before : (e : Edge) → Before e (u — v) → e.0 ≡ u → e.1 < n → e.1 ≤ v
    before e (inl h) p q = absurd (omega arith)
    before e (inr h) p q = omega arith

farther_no : {P : Type 0} (d : Dec P) (a b : ℕ) → ¬ P → farther d a b ≡ b
unfolding farther
farther_no (yes p) a b f = absurd (f p)
farther_no (no p) a b f = refl

pub far_other : (n u v : ℕ) (xs : List Edge) (c : ℕ) → ¬ (u ≡ c) → far c n (xs ++ ((u — v) ∷ [])) ≡ far c n xs
unfolding far
far_other n u v [] c f = farther_no (near? c n (u — v)) v (suc c) (λ h. f h.0)
far_other n u v (x ∷ xs) c f = ap (farther (near? c n x) x.1) (far_other n u v xs c f)
