-- The rows by roles are those of the plan drawn, by the one induction over its walk (crate umbrella). Rests on OnLines.antt.
use mathlib.Core.Path.{◌≡◌, refl, sym, ◌∙◌}
use mathlib.Core.Bool.{Bool, true, false, not}
use mathlib.Core.List.{List, [], ◌∷◌, ◌++◌, map, map-map}
use Prim.Native.Nat.{ℕ, suc, ◌*◌, ◌≤◌}
use native.Mathlib.Omega.{arith}
use Rattle.polygon.specs.Tree.{Tree, leaf, node}
use Rattle.umbrella.specs.Plan.{Plan, none, Stem, end_both, plain, stem_left, stem_right, levels}
use Rattle.umbrella.specs.Values.{ud}
use Rattle.umbrella.specs.Best.{best}
use Rattle.umbrella.specs.declared.roles.Role.TheVariants.{Hung, LeftRim, RightRim, FromLeft, FromRight}
use Rattle.umbrella.specs.Roles.{stem_step, step_of}
use Rattle.umbrella.proofs.Induction.{stem, by_recursion}
use Rattle.chart.specs.Places.{row_up, rows, left_rows, right_rows, left_gate_rows, right_gate_rows, stem_rows}
use Rattle.drawing.specs.declared.lines.Line.{Line}
use Rattle.drawing.specs.Lines.{far_line, near_line, aside, ranks}
use Rattle.drawing.proofs.OnLines.{OnLine, fewer, at_zero, far_on, near_on, joined, hung_ranks, own_ranks}

abbrev HungIs : (t : Tree) → Plan t → Type 0
HungIs t p = (d : ℕ) (far near : Line) (f : ℕ → ℕ) → OnLine far f (2 * ud t) → ranks Hung d far near t ≡ map f (rows p)

-- the lines of an umbrella's row 2D and row 1, in a piece whose rows go by f
record Both (d : ℕ) (far near : Line) (f g : ℕ → ℕ) : Type 0 where
  on_far : OnLine far (λ r. f (g r)) (2 * d)
  on_near : OnLine near (λ r. f (suc r)) (2 * d)

-- how the rows of a piece go that is hung beside a stem, k: the stem is built from the right and goes to the left, or from the left and to the right
abbrev beside_by : Bool → (ℕ → ℕ) → ℕ → ℕ
beside_by true g = g
beside_by false g = suc

-- both rims
root : (d k : ℕ) (l r : Tree) (far near : Line) (f : ℕ → ℕ) (D : ℕ) (xs ys : List ℕ) → ud (node l r) ≡ suc k → D ≡ suc k → OnLine far f (2 * ud (node l r))
    → ((m j : Line) → Both k m j f (row_up D) → ranks LeftRim k m j l ≡ map f xs) → ((m j : Line) → Both k m j f (row_up D) → ranks RightRim k m j r ≡ map f ys)
    → ranks Hung d far near (node l r) ≡ map f (xs ++ (row_up D 0 ∷ ys))
root d k l r far near f D xs ys h e o L R =
    let o' : OnLine far f (2 * suc k) = rw h at o in
    let B : Both k (far_line (suc k) far) (near_line far) f (row_up D) = record { on_far = far_on f D (suc k) k e refl far o'; on_near = near_on f D (suc k) k e refl far o' } in
    hung_ranks d far near l r (suc k) k h (omega arith) ∙ joined f xs (row_up D 0) ys (L _ _ B) (at_zero (far_line (suc k) far) B.on_far) (R _ _ B)

-- a piece hung on a line
hung_on : (d : ℕ) (t : Tree) (p : Plan t) (far near : Line) (f g : ℕ → ℕ) → HungIs t p → ud t ≤ d → OnLine far (λ r. f (g r)) (2 * d) → ranks Hung d far near t ≡ map f (map g (rows p))
hung_on d t p far near f g P h o = P d far near (λ r. f (g r)) (fewer (2 * ud t) (omega arith) o) ∙ sym (map-map f g (rows p))

-- a stem goes on across one edge, and the other piece is hung
module _ (d : ℕ) (far near : Line) (f g : ℕ → ℕ) (B : Both d far near f g) (a b : Tree) where
  left_way : (k : Bool) (xs : List ℕ) (p : Plan b) → step_of (stem k) d a b ≡ stem_step (stem k) k true → ud b ≤ d → ranks (stem k) d far near a ≡ map f xs → HungIs b p
      → ranks (stem k) d far near (node a b) ≡ map f (xs ++ (beside_by k g 0 ∷ map (beside_by k g) (rows p)))
  unfolding stem_step aside
  left_way true xs p e i s P = own_ranks d far near a b FromRight _ refl e ∙ joined f xs (g 0) (map g (rows p)) s (at_zero far B.on_far) (hung_on d b p far near f g P i B.on_far)
  left_way false xs p e i s P = own_ranks d far near a b FromLeft _ refl e ∙ joined f xs 1 (map suc (rows p)) s (at_zero near B.on_near) (hung_on d b p near near f suc P i B.on_near)

  right_way : (k : Bool) (p : Plan a) (ys : List ℕ) → step_of (stem k) d a b ≡ stem_step (stem k) k false → ud a ≤ d → HungIs a p → ranks (stem k) d far near b ≡ map f ys
      → ranks (stem k) d far near (node a b) ≡ map f (map (beside_by (not k) g) (rows p) ++ (beside_by (not k) g 0 ∷ ys))
  unfolding stem_step aside
  right_way true p ys e i P s = own_ranks d far near a b FromRight _ refl e ∙ joined f (map suc (rows p)) 1 ys (hung_on d a p near near f suc P i B.on_near) (at_zero near B.on_near) s
  right_way false p ys e i P s = own_ranks d far near a b FromLeft _ refl e ∙ joined f (map g (rows p)) (g 0) ys (hung_on d a p far near f g P i B.on_far) (at_zero far B.on_far) s

abbrev Entered : Bool → ℕ → (t : Tree) → Stem t → Type 0
Entered k d t T = (far near : Line) (f g : ℕ → ℕ) → Both d far near f g → ranks (stem k) d far near t ≡ map f (stem_rows (beside_by k g) (beside_by (not k) g) T)

pub rows_best : (t : Tree) (d : ℕ) (far near : Line) (f : ℕ → ℕ) → OnLine far f (2 * ud t) → ranks Hung d far near t ≡ map f (rows (best t))
unfolding rows ranks ud aside
rows_best = by_recursion (record {
  Hung = HungIs;
  Left = λ d t A. (far near : Line) (f g : ℕ → ℕ) → OnLine far (λ r. f (g r)) (2 * d) → ranks LeftRim d far near t ≡ map f (left_rows g A);
  LeftGated = λ d t G. (far near : Line) (f g : ℕ → ℕ) → Both d far near f g → ranks LeftRim d far near t ≡ map f (left_gate_rows g G);
  Right = λ d t A. (far near : Line) (f g : ℕ → ℕ) → OnLine far (λ r. f (g r)) (2 * d) → ranks RightRim d far near t ≡ map f (right_rows g A);
  RightGated = λ d t G. (far near : Line) (f g : ℕ → ℕ) → Both d far near f g → ranks RightRim d far near t ≡ map f (right_gate_rows g G);
  Entered = Entered;
}) (record {
  empty = λ d far near f o. refl;
  bare = λ k l r A B h L R d far near f o.
      let D : ℕ = levels (plain A B) in
      root d k l r far near f D (left_rows (row_up D) A) (right_rows (row_up D) B) h.0 h.1 o (λ m j b. L m j f (row_up D) b.on_far) (λ m j b. R m j f (row_up D) b.on_far);
  stem_below = λ k l r G B h L R d far near f o.
      let D : ℕ = levels (stem_left G B) in
      root d k l r far near f D (left_gate_rows (row_up D) G) (right_rows (row_up D) B) h.0 h.1 o (λ m j b. L m j f (row_up D) b) (λ m j b. R m j f (row_up D) b.on_far);
  stem_above = λ k l r A G h L R d far near f o.
      let D : ℕ = levels (stem_right A G) in
      root d k l r far near f D (left_rows (row_up D) A) (right_gate_rows (row_up D) G) h.0 h.1 o (λ m j b. L m j f (row_up D) b.on_far) (λ m j b. R m j f (row_up D) b);
  left_end_lem = λ d far near f g o. refl;
  left_on_lem = λ d a b A p e i L P far near f g o. own_ranks d far near a b LeftRim _ refl e
      ∙ joined f (left_rows g A) (g 0) (map g (rows p)) (L far near f g o) (at_zero far o) (hung_on d b p far near f g P i o);
  left_past_lem = λ d a b G p e i L P far near f g B. own_ranks d far near a b LeftRim _ refl e
      ∙ joined f (left_gate_rows g G) (g 0) (map g (rows p)) (L far near f g B) (at_zero far B.on_far) (hung_on d b p far near f g P i B.on_far);
  left_gate_lem = λ d a b A T e L s far near f g B. own_ranks d far near a b LeftRim _ refl e
      ∙ joined f (left_rows suc A) 1 (stem_rows g suc T) (L near near f suc B.on_near) (at_zero near B.on_near) (s far near f g B);
  right_end_lem = λ d far near f g o. refl;
  right_on_lem = λ d a b p A e i P R far near f g o. own_ranks d far near a b RightRim _ refl e
      ∙ joined f (map g (rows p)) (g 0) (right_rows g A) (hung_on d a p far near f g P i o) (at_zero far o) (R far near f g o);
  right_past_lem = λ d a b p G e i P R far near f g B. own_ranks d far near a b RightRim _ refl e
      ∙ joined f (map g (rows p)) (g 0) (right_gate_rows g G) (hung_on d a p far near f g P i B.on_far) (at_zero far B.on_far) (R far near f g B);
  right_gate_lem = λ d a b T A e s R far near f g B. own_ranks d far near a b RightRim _ refl e
      ∙ joined f (stem_rows suc g T) 1 (right_rows suc A) (s far near f g B) (at_zero near B.on_near) (R near near f suc B.on_near);
  ends = λ k. elim k as (λ k. (d : ℕ) → step_of (stem k) d leaf leaf ≡ stem_step (stem k) k (not k) → Entered k d (node leaf leaf) end_both) [
    | true ↦ λ d e far near f g B. right_way d far near f g B leaf leaf true none [] e (omega arith) (λ d far near f o. refl) refl
    | false ↦ λ d e far near f g B. left_way d far near f g B leaf leaf false [] none e (omega arith) refl (λ d far near f o. refl)
  ];
  ends_left = λ k d x y p e i P far near f g B. left_way d far near f g B leaf (node x y) k [] p e i refl P;
  ends_right = λ k d x y p e i P far near f g B. right_way d far near f g B (node x y) leaf k p [] e i P refl;
  goes_left_lem = λ k d a b T p e i s P far near f g B. left_way d far near f g B a b k (stem_rows (beside_by k g) (beside_by (not k) g) T) p e i (s far near f g B) P;
  goes_right = λ k d a b p T e i P s far near f g B. right_way d far near f g B a b k p (stem_rows (beside_by k g) (beside_by (not k) g) T) e i P (s far near f g B);
})
