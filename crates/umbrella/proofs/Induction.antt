-- What holds of the plan drawn of a piece: an induction over the walk of it, for any statements about hung pieces, rims and stems.
-- The choices of Best.antt are decided here, once: each step of the induction is told how the walk goes on (Roles.antt), and that the hung pieces do with the levels under the umbrella.
-- Rests on Cases.antt, on the inequalities between the six values, and on the levels of the plan computed.
use mathlib.Core.Path.{◌≡◌, refl}
use mathlib.Core.Bool.{Bool, true, false, not, false≢true}
use Prim.Native.Nat.{ℕ, suc, ◌≤◌}
use native.Mathlib.Decide.{dec_le}
use native.Mathlib.Omega.{arith}
use Rattle.polygon.specs.Tree.{Tree, leaf, node}
use Rattle.umbrella.specs.Plan.{Plan, none, plain, stem_left, stem_right, LeftRim, left_end, left_on, RightRim, right_end, right_on, LeftGate, left_gate, left_past, RightGate, right_gate, right_past, Stem, end_both, end_left, end_right, go_left, go_right, levels}
use Rattle.umbrella.specs.Values.{ud, handle, fan_a, fan_b, partial_a, partial_b}
use Rattle.umbrella.specs.Best.{Over, Node, two, umbrella, left_at, right_at, stem_at, under, best, best_left, best_right, gate_left, gate_right, best_stem}
use Rattle.umbrella.specs.declared.roles.Role.{Role}
use Rattle.umbrella.specs.declared.roles.Role.TheVariants as role
use Rattle.umbrella.specs.Roles.{is_hung, goes_left, stem_step, step_at, step_of}
use Rattle.umbrella.proofs.Lattice.{by_first, by_second}
use Rattle.umbrella.proofs.Inequalities.{inequalities}
use Rattle.umbrella.proofs.Theorems.{computed_has}
use Rattle.umbrella.proofs.Cases.{left_hung, left_entered, right_hung, right_entered, end_both_lem, end_left_lem, only_right, end_right_lem, only_left, both_left, both_right}

-- the role of a piece that a stem has entered, k: built from the right
abbrev pub stem : Bool → Role
stem true = role.FromRight
stem false = role.FromLeft

-- no other role is that of a hung piece
pub only_hung : (p : Role) → is_hung p ≡ true → p ≡ role.Hung
only_hung role.Hung h = refl
only_hung role.LeftRim h = absurd (false≢true h)
only_hung role.RightRim h = absurd (false≢true h)
only_hung role.FromLeft h = absurd (false≢true h)
only_hung role.FromRight h = absurd (false≢true h)

-- the walk goes on from the triangle of the piece node a b, whose role is p, to roles x and y; along a stem, to the left if g
abbrev Beyond : Role → ℕ → Tree → Tree → Role → Role → Bool → Type 0
Beyond p d a b x y c = step_of p d a b ≡ record { left = x; right = y; crossed = c }

abbrev Goes : Bool → ℕ → Tree → Tree → Bool → Type 0
Goes k d a b g = step_of (stem k) d a b ≡ stem_step (stem k) k g

-- the levels of an umbrella with k levels under it
abbrev Tall : ℕ → {l r : Tree} → Plan (node l r) → Type 0
Tall k {l} {r} p = (ud (node l r) ≡ suc k) × (levels p ≡ suc k)

-- of a hung piece; of the rim below or above c, with d levels under the umbrella, no gate on it or one; of a stem through a piece
pub record Statements : Type 1 where
  pub Hung : (t : Tree) → Plan t → Type 0
  pub Left : ℕ → (t : Tree) → LeftRim t → Type 0
  pub LeftGated : ℕ → (t : Tree) → LeftGate t → Type 0
  pub Right : ℕ → (t : Tree) → RightRim t → Type 0
  pub RightGated : ℕ → (t : Tree) → RightGate t → Type 0
  pub Entered : Bool → ℕ → (t : Tree) → Stem t → Type 0

pub record Steps (S : Statements) : Type 0 where
  pub empty : S.Hung leaf none
  pub bare : (k : ℕ) (l r : Tree) (A : LeftRim l) (B : RightRim r) → Tall k (plain A B) → S.Left k l A → S.Right k r B → S.Hung (node l r) (plain A B)
  pub stem_below : (k : ℕ) (l r : Tree) (G : LeftGate l) (B : RightRim r) → Tall k (stem_left G B) → S.LeftGated k l G → S.Right k r B → S.Hung (node l r) (stem_left G B)
  pub stem_above : (k : ℕ) (l r : Tree) (A : LeftRim l) (G : RightGate r) → Tall k (stem_right A G) → S.Left k l A → S.RightGated k r G → S.Hung (node l r) (stem_right A G)
  pub left_end_lem : (d : ℕ) → S.Left d leaf left_end
  pub left_on_lem : (d : ℕ) (a b : Tree) (A : LeftRim a) (p : Plan b) → Beyond role.LeftRim d a b role.LeftRim role.Hung false → ud b ≤ d → S.Left d a A → S.Hung b p → S.Left d (node a b) (left_on A p)
  pub left_past_lem : (d : ℕ) (a b : Tree) (G : LeftGate a) (p : Plan b) → Beyond role.LeftRim d a b role.LeftRim role.Hung false → ud b ≤ d → S.LeftGated d a G → S.Hung b p → S.LeftGated d (node a b) (left_past G p)
  pub left_gate_lem : (d : ℕ) (a b : Tree) (A : LeftRim a) (T : Stem b) → Beyond role.LeftRim d a b role.LeftRim role.FromRight true → S.Left d a A → S.Entered true d b T → S.LeftGated d (node a b) (left_gate A T)
  pub right_end_lem : (d : ℕ) → S.Right d leaf right_end
  pub right_on_lem : (d : ℕ) (a b : Tree) (p : Plan a) (B : RightRim b) → Beyond role.RightRim d a b role.Hung role.RightRim false → ud a ≤ d → S.Hung a p → S.Right d b B → S.Right d (node a b) (right_on p B)
  pub right_past_lem : (d : ℕ) (a b : Tree) (p : Plan a) (G : RightGate b) → Beyond role.RightRim d a b role.Hung role.RightRim false → ud a ≤ d → S.Hung a p → S.RightGated d b G → S.RightGated d (node a b) (right_past p G)
  pub right_gate_lem : (d : ℕ) (a b : Tree) (T : Stem a) (B : RightRim b) → Beyond role.RightRim d a b role.FromLeft role.RightRim true → S.Entered false d a T → S.Right d b B → S.RightGated d (node a b) (right_gate T B)
  pub ends : (k : Bool) (d : ℕ) → Goes k d leaf leaf (not k) → S.Entered k d (node leaf leaf) end_both
  pub ends_left : (k : Bool) (d : ℕ) (x y : Tree) (p : Plan (node x y)) → Goes k d leaf (node x y) true → ud (node x y) ≤ d → S.Hung (node x y) p → S.Entered k d (node leaf (node x y)) (end_left p)
  pub ends_right : (k : Bool) (d : ℕ) (x y : Tree) (p : Plan (node x y)) → Goes k d (node x y) leaf false → ud (node x y) ≤ d → S.Hung (node x y) p → S.Entered k d (node (node x y) leaf) (end_right p)
  pub goes_left_lem : (k : Bool) (d : ℕ) (a b : Tree) (T : Stem a) (p : Plan b) → Goes k d a b true → ud b ≤ d → S.Entered k d a T → S.Hung b p → S.Entered k d (node a b) (go_left T p)
  pub goes_right : (k : Bool) (d : ℕ) (a b : Tree) (p : Plan a) (T : Stem b) → Goes k d a b false → ud a ≤ d → S.Hung a p → S.Entered k d b T → S.Entered k d (node a b) (go_right p T)

goes : (k : Bool) (d : ℕ) (a b : Tree) {g : Bool} → goes_left k d (ud a) (ud b) (handle a) ≡ g → Goes k d a b g
unfolding step_at
goes true d a b e = rw e
goes false d a b e = rw e

module _ (S : Statements) (N : Steps S) where
  -- what is known of the pieces beyond a triangle
  abbrev RimsBelow : ℕ → Tree → Tree → Type 0
  RimsBelow d l r = (fan_a l r ≤ d → S.Left d l (best_left l)) × ((f : Over (fan_a l r) d) → partial_a l r ≤ d → S.LeftGated d l (gate_left d l r f))

  abbrev RimsAbove : ℕ → Tree → Tree → Type 0
  RimsAbove d l r = (fan_b l r ≤ d → S.Right d r (best_right r)) × ((f : Over (fan_b l r) d) → partial_b l r ≤ d → S.RightGated d r (gate_right d l r f))

  abbrev Stems : Bool → ℕ → Tree → Type 0
  Stems k d t = (n : Node t) → handle t ≤ d → S.Entered k d t (best_stem d t n)

  root_at : (l r : Tree) (h : Dec (fan_a l r ≤ under l r)) (k : Dec (fan_b l r ≤ under l r)) → RimsBelow (under l r) l r → RimsAbove (under l r) l r
      → let p = umbrella (under l r) l r h k (best_left l) (best_right r) (λ f. gate_left (under l r) l r f) (λ f. gate_right (under l r) l r f) in levels p ≡ suc (under l r) → S.Hung (node l r) p
  unfolding umbrella ud
  root_at l r (yes h) (yes k) L R e = N.bare (under l r) l r _ _ (refl, e) (L.0 h) (R.0 k)
  root_at l r (no h) (yes k) L R e = N.stem_below (under l r) l r _ _ (refl, e) (L.1 h (omega (arith, inequalities l r))) (R.0 k)
  root_at l r (yes h) (no k) L R e = N.stem_above (under l r) l r _ _ (refl, e) (L.0 h) (R.1 k (omega (arith, inequalities r l)))
  root_at l r (no h) (no k) L R e = absurd (omega arith)

  left_at_lem : (d : ℕ) (a b r : Tree) (f : Over (fan_a (node a b) r) d) (k : Dec (ud b ≤ d)) → partial_a (node a b) r ≤ d → RimsBelow d a b → S.Hung b (best b) → Stems true d b
      → S.LeftGated d (node a b) (left_at d a b r f k (best_left a) (best b) (λ e. gate_left d a b e) (λ n. best_stem d b n))
  unfolding left_at ud step_at
  left_at_lem d a b r f (yes k) h L p s = N.left_past_lem d a b _ _ (left_hung d (ud b) k) k (L.1 _ (omega (arith, inequalities a b))) p
  left_at_lem d a b r f (no k) h L p s = N.left_gate_lem d a b _ _ (left_entered d (ud b) k) (L.0 (omega arith)) (s _ (omega arith))

  right_at_lem : (d : ℕ) (l a b : Tree) (f : Over (fan_b l (node a b)) d) (k : Dec (ud a ≤ d)) → partial_b l (node a b) ≤ d → S.Hung a (best a) → Stems false d a → RimsAbove d a b
      → S.RightGated d (node a b) (right_at d l a b f k (best a) (best_right b) (λ e. gate_right d a b e) (λ n. best_stem d a n))
  unfolding right_at ud step_at
  right_at_lem d l a b f (yes k) h p s R = N.right_past_lem d a b _ _ (right_hung d (ud a) k) k p (R.1 _ (omega (arith, inequalities b a)))
  right_at_lem d l a b f (no k) h p s R = N.right_gate_lem d a b _ _ (right_entered d (ud a) k) (s _ (omega arith)) (R.0 (omega arith))

  stem_at_lem : (k : Bool) (d : ℕ) (a b : Tree) (i : Dec (ud a ≤ d)) (j : Dec (ud b ≤ d)) (h : Dec (handle a ≤ d)) → handle (node a b) ≤ d → S.Hung a (best a) → S.Hung b (best b) → Stems k d a → Stems k d b
      → S.Entered k d (node a b) (stem_at d a b i j h (best a) (best b) (λ m. best_stem d a m) (λ m. best_stem d b m))
  unfolding stem_at ud
  stem_at_lem k d leaf leaf i j h m p q s r = N.ends k d (goes k d leaf leaf (end_both_lem k d _ 0 0 refl refl))
  stem_at_lem k d leaf (node x y) i (yes j) h m p q s r = N.ends_left k d x y _ (goes k d leaf (node x y) (end_left_lem k d _ 0 (ud (node x y)) refl (omega arith) j)) j q
  stem_at_lem k d leaf (node x y) i (no j) h m p q s r = N.goes_right k d leaf (node x y) _ _ (goes k d leaf (node x y) (only_right k d _ 0 _ refl j)) (omega arith) p (r two (by_second _ _ _ _ d m (λ o. j o.1)).0)
  stem_at_lem k d (node x y) leaf (yes i) j h m p q s r = N.ends_right k d x y _ (goes k d (node x y) leaf (end_right_lem k d _ (ud (node x y)) 0 (omega arith) refl i)) i p
  stem_at_lem k d (node x y) leaf (no i) j h m p q s r = N.goes_left_lem k d (node x y) leaf _ _ (goes k d (node x y) leaf (only_left k d _ _ 0 i refl)) (omega arith) (s two (by_first _ _ _ _ d m (λ o. i o.1)).0) q
  stem_at_lem k d (node x y) (node z w) i (yes j) (yes h) m p q s r = N.goes_left_lem k d (node x y) (node z w) _ _ (goes k d (node x y) (node z w) (both_left k d _ (ud (node x y)) (ud (node z w)) (omega arith) (omega arith) j h)) j (s two h) q
  stem_at_lem k d (node x y) (node z w) i (yes j) (no h) m p q s r =
      let o = by_second _ _ _ _ d m (λ o. h o.0) in
      N.goes_right k d (node x y) (node z w) _ _ (goes k d (node x y) (node z w) (both_right k d _ (ud (node x y)) (ud (node z w)) (omega arith) (omega arith) (λ v w. h w))) o.1 p (r two o.0)
  stem_at_lem k d (node x y) (node z w) i (no j) h m p q s r =
      let o = by_second _ _ _ _ d m (λ o. j o.1) in
      N.goes_right k d (node x y) (node z w) _ _ (goes k d (node x y) (node z w) (both_right k d _ (ud (node x y)) (ud (node z w)) (omega arith) (omega arith) (λ v w. j v))) o.1 p (r two o.0)

  mutual
    unfolding best ud step_at

    pub by_recursion : (t : Tree) → S.Hung t (best t)
    by_recursion leaf = N.empty
    by_recursion (node l r) = root_at l r (dec_le (fan_a l r) (under l r)) (dec_le (fan_b l r) (under l r)) (λ h. left_is l r (under l r) h, λ f h. left_gated_lem l r (under l r) f h) (λ h. right_is l r (under l r) h, λ f h. right_gated_lem l r (under l r) f h) (computed_has (node l r))

    left_is : (l r : Tree) (d : ℕ) → fan_a l r ≤ d → S.Left d l (best_left l)
    left_is leaf r d h = N.left_end_lem d
    left_is (node a b) r d h = N.left_on_lem d a b _ _ (left_hung d (ud b) (omega arith)) (omega arith) (left_is a b d (omega arith)) (by_recursion b)

    left_gated_lem : (l r : Tree) (d : ℕ) (f : Over (fan_a l r) d) → partial_a l r ≤ d → S.LeftGated d l (gate_left d l r f)
    left_gated_lem leaf r d f h = absurd (f (omega arith))
    left_gated_lem (node a b) r d f h = left_at_lem d a b r f (dec_le (ud b) d) h (λ m. left_is a b d m, λ g m. left_gated_lem a b d g m) (by_recursion b) (λ n m. stem_is b true d n m)

    right_is : (l r : Tree) (d : ℕ) → fan_b l r ≤ d → S.Right d r (best_right r)
    right_is l leaf d h = N.right_end_lem d
    right_is l (node a b) d h = N.right_on_lem d a b _ _ (right_hung d (ud a) (omega arith)) (omega arith) (by_recursion a) (right_is a b d (omega arith))

    right_gated_lem : (l r : Tree) (d : ℕ) (f : Over (fan_b l r) d) → partial_b l r ≤ d → S.RightGated d r (gate_right d l r f)
    right_gated_lem l leaf d f h = absurd (f (omega arith))
    right_gated_lem l (node a b) d f h = right_at_lem d l a b f (dec_le (ud a) d) h (by_recursion a) (λ n m. stem_is a false d n m) (λ m. right_is a b d m, λ g m. right_gated_lem a b d g m)

    stem_is : (t : Tree) (k : Bool) (d : ℕ) (n : Node t) → handle t ≤ d → S.Entered k d t (best_stem d t n)
    stem_is leaf k d n h = elim n [ ]
    stem_is (node a b) k d n h = stem_at_lem k d a b (dec_le (ud a) d) (dec_le (ud b) d) (dec_le (handle a) d) h (by_recursion a) (by_recursion b) (λ n m. stem_is a k d n m) (λ n m. stem_is b k d n m)
