-- Lines against the functions that they stand for, and the ranks at a triangle by its step.
use mathlib.Core.Path.{◌≡◌, refl, sym, ◌∙◌}
use mathlib.Core.Bool.{Bool, true, false, true≢false}
use mathlib.Core.List.{List, ◌∷◌, ◌++◌, map, map-append}
use Prim.Native.Nat.{ℕ, suc, ◌*◌, ◌-◌, ◌≤◌}
use native.Mathlib.Nat.{add-zero}
use native.Mathlib.Omega.{arith}
use Rattle.polygon.specs.Tree.{Tree, node}
use Rattle.umbrella.specs.Values.{ud}
use Rattle.chart.specs.Places.{row_up}
use Rattle.umbrella.specs.declared.roles.Role.{Role}
use Rattle.umbrella.specs.declared.roles.Role.TheVariants.{Hung, LeftRim, RightRim, FromLeft, FromRight}
use Rattle.drawing.specs.declared.lines.Line.{Line}
use Rattle.umbrella.specs.declared.roles.Step.{Step}
use Rattle.umbrella.specs.Roles.{from_right, is_hung, step_at, step_of}
use Rattle.drawing.specs.Lines.{on_line, row_at, far_line, near_line, aside, lines_at, ranks}

-- up to row k the line m stands for f
pub record OnLine (m : Line) (f : ℕ → ℕ) (k : ℕ) : Type 0 where
  pub agrees : (r : ℕ) → r ≤ k → f r ≡ row_at m r
  pub room : m.down ≡ false → k ≤ m.base

pub fewer : {m : Line} {f : ℕ → ℕ} {k : ℕ} (j : ℕ) → j ≤ k → OnLine m f k → OnLine m f j
fewer j h O = record { agrees = λ r i. O.agrees r (omega arith); room = λ e. omega (arith, O.room e) }

on_zero : (b : Bool) (base : ℕ) → on_line b base 0 ≡ base
on_zero true base = add-zero base
on_zero false base = omega arith

pub at_zero : {f : ℕ → ℕ} {k : ℕ} (m : Line) → OnLine m f k → m.base ≡ f 0
at_zero m O = sym (O.agrees 0 (omega arith) ∙ on_zero m.down m.base)

-- row 2D and row 1 of a piece with D levels, n of them and k under its umbrella
module _ (f : ℕ → ℕ) (D n k : ℕ) (e : D ≡ n) (s : suc k ≡ n) where
  far_by : (b : Bool) (base : ℕ) → OnLine (record { base = base; down = b }) f (2 * n) → OnLine (far_line n (record { base = base; down = b })) (λ r. f (row_up D r)) (2 * k)
  far_by true base O = record { agrees = λ r h. O.agrees (2 * D - r) (omega arith) ∙ omega arith; room = λ h. omega arith }
  far_by false base O =
      let i : 2 * n ≤ base = O.room refl in
      record { agrees = λ r h. O.agrees (2 * D - r) (omega arith) ∙ omega (arith, i); room = λ h. absurd (true≢false h) }

  near_by : (b : Bool) (base : ℕ) → OnLine (record { base = base; down = b }) f (2 * n) → OnLine (near_line (record { base = base; down = b })) (λ r. f (suc r)) (2 * k)
  near_by true base O = record { agrees = λ r h. O.agrees (suc r) (omega arith) ∙ omega arith; room = λ h. absurd (true≢false h) }
  near_by false base O =
      let i : 2 * n ≤ base = O.room refl in
      record { agrees = λ r h. O.agrees (suc r) (omega arith) ∙ omega arith; room = λ h. omega (arith, i) }

  pub far_on : (m : Line) → OnLine m f (2 * n) → OnLine (far_line n m) (λ r. f (row_up D r)) (2 * k)
  far_on m O = far_by m.down m.base O

  pub near_on : (m : Line) → OnLine m f (2 * n) → OnLine (near_line m) (λ r. f (suc r)) (2 * k)
  near_on m O = near_by m.down m.base O

pub joined : (f : ℕ → ℕ) {xs ys : List ℕ} {y : ℕ} (xs' : List ℕ) (y' : ℕ) (ys' : List ℕ) → xs ≡ map f xs' → y ≡ f y' → ys ≡ map f ys' → xs ++ (y ∷ ys) ≡ map f (xs' ++ (y' ∷ ys'))
joined f xs' y' ys' p q r = rw (p, q, r) (sym (map-append f xs' (y' ∷ ys')))

-- the ranks at a triangle
module _ (d : ℕ) (far near : Line) (l r : Tree) where
  pub hung_ranks : (n k : ℕ) → ud (node l r) ≡ n → n - 1 ≡ k → ranks Hung d far near (node l r) ≡ ranks LeftRim k (far_line n far) (near_line far) l ++ ((far_line n far).base ∷ ranks RightRim k (far_line n far) (near_line far) r)
  unfolding ranks step_at lines_at
  hung_ranks n k e h = rw (e, h)

  pub own_ranks : (p : Role) (s : Step) → is_hung p ≡ false → step_of p d l r ≡ s
      → let q = aside (from_right p) s.crossed d far near in ranks p d far near (node l r) ≡ ranks s.left q.d q.left q.near l ++ (q.middle ∷ ranks s.right q.d q.right q.near r)
  unfolding ranks lines_at
  own_ranks Hung s h e = absurd (true≢false h)
  own_ranks LeftRim s h e = rw e
  own_ranks RightRim s h e = rw e
  own_ranks FromLeft s h e = rw e
  own_ranks FromRight s h e = rw e
