-- How `grow` unfolds, and that on a list with the inner edges of a tree, none crossing, it gives the tree back (`grow_ok`).
-- Rests on the laws of chords and of `far`.
use mathlib.Core.Path.{◌≡◌, refl, ap₂, sym, ◌∙◌}
use mathlib.Core.Logic.{◌⊎◌, inl, inr}
use mathlib.Core.List.{List}
use Prim.Native.Nat.{ℕ, zero, suc, ◌+◌, ◌≤◌, ◌<◌}
use native.Mathlib.Decide.{dec_lt}
use native.Mathlib.Nat.{add_assoc}
use native.Mathlib.Omega.{arith}
use Rattle.lists.specs.Lists.{Mem, Sub}
use Rattle.lists.proofs.Lists.{all_mem, all_of, choose_no, choose_yes}
use Rattle.polygon.specs.Polygon.{Edge, ◌—◌, NoneCross}
use Rattle.polygon.specs.Tree.{Tree, leaf, node, span, inner, far, grow}
use Rattle.polygon.proofs.Far.{far_is}
use Rattle.polygon.proofs.Chords.{span_pos, inner_left, inner_right, inner_sub, root_of}

pub grow_node : (k : ℕ) (ds : List Edge) (u v c : ℕ) → suc u < v → far u v ds ≡ c → grow (suc k) ds u v ≡ node (grow k ds u c) (grow k ds c v)
unfolding grow
grow_node k ds u v c h e = choose_yes (dec_lt (suc u) v) leaf h ∙ rw e

pub grow_leaf : (k : ℕ) (ds : List Edge) (u v : ℕ) → v ≤ suc u → grow k ds u v ≡ leaf
unfolding grow
grow_leaf zero ds u v h = refl
grow_leaf (suc k) ds u v h = choose_no (dec_lt (suc u) v) _ (omega arith)

-- over a list in which none cross
module _ (ds : List Edge) (X : NoneCross ds) where
  apex : (u : ℕ) (l r : Tree) → Sub (inner u (node l r)) ds → far u (u + (span l + span r)) ds ≡ u + span l
  apex u l r H = far_is u (u + (span l + span r)) ds c (record {
    above = omega (arith, span_pos l);
    below = omega (arith, span_pos r);
    most = all_of ds (λ e m p q. top e m p q (dec_lt c e.1) (dec_lt 1 (span r)));
    hit = hit (dec_lt 1 (span l));
  })
    where
      c : ℕ
      c = u + span l

      -- (c,v) is joined, and no edge crosses it
      top : (e : Edge) → Mem e ds → e.0 ≡ u → e.1 < u + (span l + span r) → Dec (c < e.1) → Dec (1 < span r) → e.1 ≤ c
      top e m p q (no h) d = omega arith
      top e m p q (yes h) (no i) = absurd (omega arith)
      top e m p q (yes h) (yes i) = absurd (all_mem (all_mem X m) (H _ (inner_right u l r _ (root_of c r i))) (omega (arith, span_pos l)))

      hit : Dec (1 < span l) → (c ≡ suc u) ⊎ Mem (u — c) ds
      hit (no h) = inl (omega (arith, span_pos l))
      hit (yes h) = inr (H _ (inner_left u l r _ (root_of u l h)))

  pub grow_ok : (k : ℕ) (t : Tree) (u : ℕ) → span t ≤ k → Sub (inner u t) ds → grow k ds u (u + span t) ≡ t
  unfolding span
  grow_ok zero t u h H = absurd (omega (arith, span_pos t))
  grow_ok (suc k) leaf u h H = grow_leaf (suc k) ds u (u + 1) (omega arith)
  grow_ok (suc k) (node l r) u h H =
      grow_node k ds u (u + (span l + span r)) (u + span l) (omega (arith, span_pos l, span_pos r)) (apex u l r H)
      ∙ ap₂ node
      (grow_ok k l u (omega (arith, span_pos r)) (λ e m. H e (inner_left u l r e (inner_sub u l e m))))
      (rw (sym (add_assoc u (span l) (span r))) (grow_ok k r (u + span l) (omega (arith, span_pos l)) (λ e m. H e (inner_right u l r e (inner_sub (u + span l) r e m)))))
