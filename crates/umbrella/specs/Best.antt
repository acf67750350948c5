-- What the program computes: the plan drawn, by way of the six values, with no search.
-- (`unique` in proofs/Unique.antt: the plan drawn, defined in Drawn.antt, is this one.)
use Rattle.std.specs.Prelude.{ℕ, ◌≤◌, min, max}
use Rattle.std.proofs.Math.Decide.{dec_le}
use Rattle.std.proofs.Common.{arith}
use Rattle.polygon.specs.Polygon.{Polygon}
use Rattle.polygon.specs.Tree.{Tree, leaf, node, tree_of}
use Rattle.umbrella.specs.Plan.{Plan, none, plain, stem_left, stem_right, LeftRim, left_end, left_on, RightRim, right_end, right_on, LeftGate, left_gate, left_past, RightGate, right_gate, right_past, Stem, end_both, end_left, end_right, go_left, go_right}
use Rattle.umbrella.specs.Values.{ud, handle, fan_a, fan_b, partial_a, partial_b}

-- n is not within d
abbrev pub Over : ℕ → ℕ → Type 0
Over n d = n ≤ d → ⊥

-- the piece is not empty
pub data Node : Tree → Type 0 where
  two : {a b : Tree} → Node (node a b)

unfoldable pub over_node : (d : ℕ) (t : Tree) → Over (ud t) d → Node t
unfolding ud
over_node d leaf f = absurd (f (omega arith))
over_node d (node a b) f = two

-- what is chosen where the rim of the piece `node l r` does not do with d levels, below c or above it, and how a stem goes on through a piece
abbrev pub GateLeft : ℕ → Tree → Tree → Type 0
GateLeft d l r = Over (fan_a l r) d → LeftGate l

abbrev pub GateRight : ℕ → Tree → Tree → Type 0
GateRight d l r = Over (fan_b l r) d → RightGate r

abbrev pub Through : Tree → Type 0
Through t = Node t → Stem t

-- no stem, if all pieces on the rim do with d levels; else a stem through the piece that does not
unfoldable pub umbrella : (d : ℕ) (l r : Tree) → Dec (fan_a l r ≤ d) → Dec (fan_b l r ≤ d) → LeftRim l → RightRim r → GateLeft d l r → GateRight d l r → Plan (node l r)
umbrella d l r (yes h) (yes k) A B G H = plain A B
umbrella d l r (no h) (yes k) A B G H = stem_left (G h) B
umbrella d l r h (no k) A B G H = stem_right A (H k)

-- the first gate: the rim edge whose piece does not do with d levels
unfoldable pub left_at : (d : ℕ) (a b r : Tree) → Over (fan_a (node a b) r) d → Dec (ud b ≤ d) → LeftRim a → Plan b → GateLeft d a b → Through b → LeftGate (node a b)
unfolding fan_a
left_at d a b r f (yes h) A p G S = left_past (G (λ k. f (omega arith))) p
left_at d a b r f (no h) A p G S = left_gate A (S (over_node d b h))

unfoldable pub right_at : (d : ℕ) (l a b : Tree) → Over (fan_b l (node a b)) d → Dec (ud a ≤ d) → Plan a → RightRim b → GateRight d a b → Through a → RightGate (node a b)
unfolding fan_b
right_at d l a b f (yes h) p B G S = right_past p (G (λ k. f (omega arith)))
right_at d l a b f (no h) p B G S = right_gate (S (over_node d a h)) B

-- E if it can end and the piece beside it does with d levels; else L if the piece beside it and the stem that goes on do; else R
unfoldable pub stem_at : (d : ℕ) (a b : Tree) → Dec (ud a ≤ d) → Dec (ud b ≤ d) → Dec (handle a ≤ d) → Plan a → Plan b → Through a → Through b → Stem (node a b)
stem_at d leaf leaf h k j p q S R = end_both
stem_at d leaf (node x y) h (yes k) j p q S R = end_left q
stem_at d leaf (node x y) h (no k) j p q S R = go_right p (R two)
stem_at d (node x y) leaf (yes h) k j p q S R = end_right p
stem_at d (node x y) leaf (no h) k j p q S R = go_left (S two) q
stem_at d (node x y) (node z w) h (yes k) (yes j) p q S R = go_left (S two) q
stem_at d (node x y) (node z w) h (yes k) (no j) p q S R = go_right p (R two)
stem_at d (node x y) (node z w) h (no k) j p q S R = go_right p (R two)

-- the levels that the hung pieces of the best umbrella need: ud (node l r) - 1
abbrev pub under : Tree → Tree → ℕ
under l r = min (max (partial_a l r) (fan_b l r)) (max (partial_b l r) (fan_a l r))

unfoldable mutual
  unfolding fan_a

  pub best : (t : Tree) → Plan t
  best leaf = none
  best (node l r) =
      let d : ℕ = under l r in
      umbrella d l r (dec_le (fan_a l r) d) (dec_le (fan_b l r) d) (best_left l) (best_right r) (λ f. gate_left d l r f) (λ f. gate_right d l r f)

  pub best_left : (t : Tree) → LeftRim t
  best_left leaf = left_end
  best_left (node a b) = left_on (best_left a) (best b)

  pub best_right : (t : Tree) → RightRim t
  best_right leaf = right_end
  best_right (node a b) = right_on (best a) (best_right b)

  pub gate_left : (d : ℕ) (l r : Tree) → GateLeft d l r
  gate_left d leaf r f = absurd (f (omega arith))
  gate_left d (node a b) r f = left_at d a b r f (dec_le (ud b) d) (best_left a) (best b) (λ g. gate_left d a b g) (λ n. best_stem d b n)

  pub gate_right : (d : ℕ) (l r : Tree) → GateRight d l r
  gate_right d l leaf f = absurd (f (omega arith))
  gate_right d l (node a b) f = right_at d l a b f (dec_le (ud a) d) (best a) (best_right b) (λ g. gate_right d a b g) (λ n. best_stem d a n)

  pub best_stem : (d : ℕ) (t : Tree) → Through t
  best_stem d leaf n = elim n [ ]
  best_stem d (node a b) n = stem_at d a b (dec_le (ud a) d) (dec_le (ud b) d) (dec_le (handle a) d) (best a) (best b) (λ m. best_stem d a m) (λ m. best_stem d b m)

-- the plan drawn of a part
abbrev pub plan_of : (p : Polygon) → Plan (tree_of p.n p.ds)
plan_of p = best (tree_of p.n p.ds)
