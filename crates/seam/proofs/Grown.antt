-- A tree with trees of at most D levels in the places of its leaves: no value of an edge falls, and none rises by more than D.
-- So the levels of a grafted tree are at least those of either, and at most their sum.
use Prim.Native.Nat.{ℕ, ◌+◌, ◌-◌, ◌≤◌, min, max}
use native.Mathlib.Nat.{le_refl, le_trans}
use native.Mathlib.Omega.{arith}
use Rattle.polygon.specs.Tree.{Tree, leaf, node, span}
use Rattle.umbrella.specs.Values.{handle, fan_a, fan_b, partial_a, partial_b, ud, fan_of_a, fan_of_b, partial_of_a, partial_of_b}
use Rattle.umbrella.proofs.Inequalities.{inequalities, left_ud, right_ud}
use Rattle.seam.specs.Graft.{graft}
use Rattle.seam.proofs.Graft.{graft_cases}

-- b is at least a, and at most D more
pub record Raised (D a b : ℕ) : Type 0 where
  pub least : a ≤ b
  pub most : b ≤ a + D

module _ {D a b c d : ℕ} (p : Raised D a b) (q : Raised D c d) where
  min_raised : Raised D (min a c) (min b d)
  min_raised = omega arith

  max_raised : Raised D (max a c) (max b d)
  max_raised = omega arith

-- the second tree is the first with trees of at most D levels in the places of its leaves
data Grown (D : ℕ) : Tree → Tree → Type 0 where
  at_leaf : {t : Tree} → ud t ≤ D → Grown D leaf t
  at_node : {l r l' r' : Tree} → Grown D l l' → Grown D r r' → Grown D (node l r) (node l' r')

-- t is one of the two parts of a piece, s the other, as in umbrella/proofs/Inequalities.antt; they grow to t' and s'
record PartRaised (D : ℕ) (t s t' s' : Tree) : Type 0 where
  of_handle : Raised D (handle t) (handle t')
  of_fan_a : Raised D (fan_a t s) (fan_a t' s')
  of_fan_b : Raised D (fan_b s t) (fan_b s' t')
  of_partial_a : Raised D (partial_a t s) (partial_a t' s')
  of_partial_b : Raised D (partial_b s t) (partial_b s' t')
  of_ud : Raised D (ud t) (ud t')

part_raised : {D : ℕ} {t t' : Tree} → Grown D t t' → (s s' : Tree) → PartRaised D t s t' s'
unfolding ud
part_raised (at_leaf {t} h) s s' = omega (arith, inequalities t s')
part_raised (at_node {l} {r} {l'} {r'} a b) s s' =
    let i = part_raised a r r' in
    let j = part_raised b l l' in
    let u = min_raised (max_raised i.of_partial_a j.of_fan_b) (max_raised j.of_partial_b i.of_fan_a) in
    record {
      of_handle = min_raised (max_raised i.of_handle j.of_ud) (max_raised j.of_handle i.of_ud);
      of_fan_a = max_raised i.of_fan_a j.of_ud;
      of_fan_b = max_raised j.of_fan_b i.of_ud;
      of_partial_a = min_raised (max_raised i.of_partial_a j.of_ud) (max_raised i.of_fan_a j.of_handle);
      of_partial_b = min_raised (max_raised j.of_partial_b i.of_ud) (max_raised j.of_fan_b i.of_handle);
      of_ud = omega arith;
    }

-- the six values of an edge, the piece on it s before and t after
pub record ValuesRaised (D : ℕ) (s t : Tree) : Type 0 where
  pub of_handle : Raised D (handle s) (handle t)
  pub of_fan_a : Raised D (fan_of_a s) (fan_of_a t)
  pub of_fan_b : Raised D (fan_of_b s) (fan_of_b t)
  pub of_partial_a : Raised D (partial_of_a s) (partial_of_a t)
  pub of_partial_b : Raised D (partial_of_b s) (partial_of_b t)
  pub of_ud : Raised D (ud s) (ud t)

values_raised : {D : ℕ} {s t : Tree} → Grown D s t → ValuesRaised D s t
unfolding ud
values_raised (at_leaf {t = leaf} h) = omega arith
values_raised (at_leaf {t = node l r} h) = omega (arith, inequalities l r, inequalities r l, left_ud l r, right_ud r l)
values_raised (at_node {l} {r} {l'} {r'} a b) =
    let i = part_raised a r r' in
    let j = part_raised b l l' in
    let w = part_raised (at_node a b) leaf leaf in
    record {
      of_handle = w.of_handle;
      of_fan_a = i.of_fan_a;
      of_fan_b = j.of_fan_b;
      of_partial_a = i.of_partial_a;
      of_partial_b = j.of_partial_b;
      of_ud = w.of_ud;
    }

-- a grafted tree has grown at one leaf, by the levels of t
grown_self : {D : ℕ} (s : Tree) → Grown D s s
unfolding ud
grown_self leaf = at_leaf {t = leaf} (omega arith)
grown_self (node l r) = at_node (grown_self l) (grown_self r)

graft_grown : (i : ℕ) (s t : Tree) → Grown (ud t) s (graft i s t)
unfolding graft
graft_grown i leaf t = at_leaf (le_refl _)
graft_grown i (node l r) t =
    graft_cases (Grown (ud t) (node l r)) i l r t
    (λ h. at_node (graft_grown i l t) (grown_self r)) (λ h. at_node (grown_self l) (graft_grown (i - span l) r t))

-- each of the six values is at least what it was, and at most the levels of t more
pub graft_values : (i : ℕ) (s t : Tree) → ValuesRaised (ud t) s (graft i s t)
graft_values i s t = values_raised (graft_grown i s t)

-- a piece needs at most the levels of the whole
grafted_ud : (i : ℕ) (s t : Tree) → ud t ≤ ud (graft i s t)
unfolding graft
grafted_ud i leaf t = le_refl _
grafted_ud i (node l r) t =
    graft_cases (λ g. ud t ≤ ud g) i l r t
    (λ h. le_trans (grafted_ud i l t) (left_ud (graft i l t) r)) (λ h. le_trans (grafted_ud (i - span l) r t) (right_ud (graft (i - span l) r t) l))

-- "its levels are at least those of either half and at most their sum"
pub graft_levels : (i : ℕ) (s t : Tree) → (ud s ≤ ud (graft i s t)) × (ud t ≤ ud (graft i s t)) × (ud (graft i s t) ≤ ud s + ud t)
graft_levels i s t = let v = graft_values i s t in (v.of_ud.least, grafted_ud i s t, v.of_ud.most)
