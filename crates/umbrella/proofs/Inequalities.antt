-- Inequalities between the six values of a piece, and between the levels of a piece and of its parts.
-- Rests on Lattice.antt.
use Prim.Native.Nat.{◌≤◌, suc-le-suc}
use native.Mathlib.Nat.{le_refl, le_trans}
use native.Mathlib.Omega.{arith}
use Rattle.polygon.specs.Tree.{Tree, leaf, node}
use Rattle.umbrella.specs.Values.{ud, handle, fan_a, fan_b, partial_a, partial_b}
use Rattle.umbrella.proofs.Lattice.{min_mono, max_mono, max_swap, max_lub, min_glb, min_left, min_right, max_left, max_right}

-- t is one of the two parts of a piece on (a,b), s the other: t on (a,c) for the values of a, on (c,b) for those of b
pub record Inequalities (t s : Tree) : Type 0 where
  pub handle_ud : handle t ≤ ud t
  pub fan_a_ud : fan_a t s ≤ ud t
  pub fan_b_ud : fan_b s t ≤ ud t
  pub partial_a_handle : partial_a t s ≤ handle t
  pub partial_b_handle : partial_b s t ≤ handle t
  pub partial_a_fan_a : partial_a t s ≤ fan_a t s
  pub partial_b_fan_b : partial_b s t ≤ fan_b s t

mutual
  unfolding ud

  -- a piece needs at least the levels that its two parts need
  pub left_ud : (l r : Tree) → ud l ≤ ud (node l r)
  left_ud leaf r = omega arith
  left_ud (node a b) r =
      let i : Inequalities b a = inequalities b a in
      suc-le-suc (min_glb (max_left _ (min_mono (max_mono (le_refl _) i.fan_b_ud) (max_swap i.partial_b_handle (le_refl _)))) (max_right _ (min_right _ (max_swap (le_trans i.partial_b_handle i.handle_ud) (le_refl _)))))

  pub right_ud : (r l : Tree) → ud r ≤ ud (node l r)
  right_ud leaf l = omega arith
  right_ud (node a b) l =
      let i : Inequalities a b = inequalities a b in
      suc-le-suc (min_glb (max_right _ (min_left _ (max_swap (le_trans i.partial_a_handle i.handle_ud) (le_refl _)))) (max_left _ (min_glb (min_right _ (max_mono (le_refl _) i.fan_a_ud)) (min_left _ (max_swap i.partial_a_handle (le_refl _))))))

  pub inequalities : (t s : Tree) → Inequalities t s
  inequalities leaf s = omega arith
  inequalities (node l r) s =
      let i : Inequalities l r = inequalities l r in
      let j : Inequalities r l = inequalities r l in
      let ml : ud l ≤ ud (node l r) = left_ud l r in
      let mr : ud r ≤ ud (node l r) = right_ud r l in
      record {
        handle_ud = min_left _ (max_lub (le_trans i.handle_ud ml) mr);
        fan_a_ud = max_lub (le_trans i.fan_a_ud ml) mr;
        fan_b_ud = max_lub (le_trans j.fan_b_ud mr) ml;
        partial_a_handle = min_mono (max_mono i.partial_a_handle (le_refl _)) (max_swap i.fan_a_ud (le_refl _));
        partial_b_handle = min_glb (min_right _ (max_swap j.fan_b_ud (le_refl _))) (min_left _ (max_mono j.partial_b_handle (le_refl _)));
        partial_a_fan_a = min_left _ (max_mono i.partial_a_fan_a (le_refl _));
        partial_b_fan_b = min_left _ (max_mono j.partial_b_fan_b (le_refl _));
      }
