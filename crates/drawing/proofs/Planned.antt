-- The columns by roles are those of the plan drawn, by the one induction over its walk (crate umbrella).
use mathlib.Core.Path.{◌≡◌, refl, ◌∙◌}
use mathlib.Core.Bool.{Bool, true, false, not}
use mathlib.Core.List.{List}
use Prim.Native.Nat.{ℕ, ◌+◌, ◌≤◌}
use native.Mathlib.Numerals.{add-one}
use native.Mathlib.Omega.{arith}
use Rattle.polygon.specs.Polygon.{Edge}
use Rattle.polygon.specs.Tree.{Tree, leaf, node, span}
use Rattle.umbrella.specs.Plan.{Plan, Stem, end_both, end_left, end_right, go_left, go_right}
use Rattle.umbrella.specs.Values.{ud}
use Rattle.umbrella.specs.Best.{best}
use Rattle.umbrella.specs.declared.roles.Role.TheVariants.{Hung, LeftRim, RightRim, FromLeft, FromRight}
use Rattle.umbrella.specs.Roles.{stem_step, step_of}
use Rattle.umbrella.proofs.Induction.{stem, by_recursion}
use Rattle.chart.specs.Places.{cols, left_cols, right_cols, left_gate_cols, right_gate_cols, stem_cols, back_cols}
use Rattle.drawing.specs.Columns.{around, side_column, columns}
use Rattle.drawing.proofs.Orders.{own_columns, rims}

-- a stem built from the right, or from the left
abbrev stem_way : Bool → {t : Tree} → Stem t → ℕ → ℕ → List Edge
stem_way true T u v = back_cols T u v
stem_way false T u v = stem_cols T u v

-- the statements about a hung piece, and about a stem that has entered a piece
abbrev HungIs : (t : Tree) → Plan t → Type 0
HungIs t p = (d u v : ℕ) → columns Hung d t u v ≡ cols p u v

abbrev Entered : Bool → ℕ → (t : Tree) → Stem t → Type 0
Entered k d t T = (u v : ℕ) → columns (stem k) d t u v ≡ stem_way k T u v

abbrev Goes : Bool → ℕ → Tree → Tree → Bool → Type 0
Goes k d a b g = step_of (stem k) d a b ≡ stem_step (stem k) k g

pub columns_best : (t : Tree) (d u v : ℕ) → columns Hung d t u v ≡ cols (best t) u v
unfolding cols stem_step around columns side_column span
columns_best = by_recursion (record {
  Hung = HungIs;
  Left = λ d t A. (u v : ℕ) → columns LeftRim d t u v ≡ left_cols A u v;
  LeftGated = λ d t G. (u v : ℕ) → columns LeftRim d t u v ≡ left_gate_cols G u v;
  Right = λ d t B. (u v : ℕ) → columns RightRim d t u v ≡ right_cols B u v;
  RightGated = λ d t G. (u v : ℕ) → columns RightRim d t u v ≡ right_gate_cols G u v;
  Entered = Entered;
}) (record {
  empty = λ d u v. refl;
  bare = λ k l r A B h L R d u v. rims d l r u v k (omega (arith, h)) ∙ rw (L u (u + span l), R (u + span l) v);
  stem_below = λ k l r G B h L R d u v. rims d l r u v k (omega (arith, h)) ∙ rw (L u (u + span l), R (u + span l) v);
  stem_above = λ k l r A G h L R d u v. rims d l r u v k (omega (arith, h)) ∙ rw (L u (u + span l), R (u + span l) v);
  left_end_lem = λ d u v. refl;
  left_on_lem = λ d a b A p e i L P u v. own_columns LeftRim d a b u v _ refl e ∙ rw (L u (u + span a), P d (u + span a) v);
  left_past_lem = λ d a b G p e i L P u v. own_columns LeftRim d a b u v _ refl e ∙ rw (L u (u + span a), P d (u + span a) v);
  left_gate_lem = λ d a b A T e L s u v. own_columns LeftRim d a b u v _ refl e ∙ rw (L u (u + span a), s (u + span a) v);
  right_end_lem = λ d u v. refl;
  right_on_lem = λ d a b p B e i P R u v. own_columns RightRim d a b u v _ refl e ∙ rw (P d u (u + span a), R (u + span a) v);
  right_past_lem = λ d a b p G e i P R u v. own_columns RightRim d a b u v _ refl e ∙ rw (P d u (u + span a), R (u + span a) v);
  right_gate_lem = λ d a b T B e s R u v. own_columns RightRim d a b u v _ refl e ∙ rw (s u (u + span a), R (u + span a) v);
  ends = λ k. elim k as (λ k. (d : ℕ) → Goes k d leaf leaf (not k) → Entered k d (node leaf leaf) end_both) [
    | true ↦ λ d e u v. own_columns FromRight d leaf leaf u v _ refl e ∙ rw (add-one u)
    | false ↦ λ d e u v. own_columns FromLeft d leaf leaf u v _ refl e ∙ rw (add-one u)
  ];
  ends_left = λ k. elim k as (λ k. (d : ℕ) (x y : Tree) (p : Plan (node x y)) → Goes k d leaf (node x y) true → ud (node x y) ≤ d → HungIs (node x y) p → Entered k d (node leaf (node x y)) (end_left p)) [
    | true ↦ λ d x y p e i P u v. own_columns FromRight d leaf (node x y) u v _ refl e ∙ rw (P d (u + 1) v, add-one u)
    | false ↦ λ d x y p e i P u v. own_columns FromLeft d leaf (node x y) u v _ refl e ∙ rw (P d (u + 1) v, add-one u)
  ];
  ends_right = λ k. elim k as (λ k. (d : ℕ) (x y : Tree) (p : Plan (node x y)) → Goes k d (node x y) leaf false → ud (node x y) ≤ d → HungIs (node x y) p → Entered k d (node (node x y) leaf) (end_right p)) [
    | true ↦ λ d x y p e i P u v. own_columns FromRight d (node x y) leaf u v _ refl e ∙ rw (P d u (u + span (node x y)))
    | false ↦ λ d x y p e i P u v. own_columns FromLeft d (node x y) leaf u v _ refl e ∙ rw (P d u (u + span (node x y)))
  ];
  goes_left_lem = λ k. elim k as (λ k. (d : ℕ) (a b : Tree) (T : Stem a) (p : Plan b) → Goes k d a b true → ud b ≤ d → Entered k d a T → HungIs b p → Entered k d (node a b) (go_left T p)) [
    | true ↦ λ d a b T p e i s P u v. own_columns FromRight d a b u v _ refl e ∙ rw (s u (u + span a), P d (u + span a) v)
    | false ↦ λ d a b T p e i s P u v. own_columns FromLeft d a b u v _ refl e ∙ rw (s u (u + span a), P d (u + span a) v)
  ];
  goes_right = λ k. elim k as (λ k. (d : ℕ) (a b : Tree) (p : Plan a) (T : Stem b) → Goes k d a b false → ud a ≤ d → HungIs a p → Entered k d b T → Entered k d (node a b) (go_right p T)) [
    | true ↦ λ d a b p T e i P s u v. own_columns FromRight d a b u v _ refl e ∙ rw (P d u (u + span a), s (u + span a) v)
    | false ↦ λ d a b p T e i P s u v. own_columns FromLeft d a b u v _ refl e ∙ rw (P d u (u + span a), s (u + span a) v)
  ];
})
