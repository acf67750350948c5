-- The columns of a rim or a stem in the order in which it is built; and there are fewer columns than twice the sides.
use mathlib.Core.Path.{◌≡◌, refl, ◌∙◌}
use mathlib.Core.Bool.{Bool, true, false, true≢false, false≢true}
use mathlib.Core.List.{List, [], ◌∷◌, ◌++◌, reverse, reverse-append, reverse-reverse}
use Prim.Native.Nat.{ℕ, suc, ◌+◌, ◌*◌, ◌-◌, ◌≤◌, ◌<◌}
use native.Mathlib.Omega.{arith}
use lib.ListN.{length, length-append, length-reverse}
use Rattle.polygon.specs.Polygon.{Edge, ◌—◌}
use Rattle.polygon.specs.Tree.{Tree, leaf, node, span}
use Rattle.umbrella.specs.Values.{ud}
use Rattle.umbrella.specs.declared.roles.Role.{Role}
use Rattle.umbrella.specs.declared.roles.Role.TheVariants.{Hung, LeftRim, RightRim, FromLeft, FromRight}
use Rattle.umbrella.specs.declared.roles.Step.{Step}
use Rattle.umbrella.specs.Roles.{from_right, is_hung, step_at, step_of, levels_under}
use Rattle.drawing.specs.Columns.{around, arranged, side_column, columns}
use Rattle.drawing.specs.Walk.{differ, turn_if}

-- a rim or a stem as it is built: the own column, the piece beside it, reversed if that lies to the right, and the piece that it goes on to
abbrev pub Built : (left b : Bool) → Edge → List Edge → List Edge → List Edge
Built true b e xs ys = e ∷ (turn_if true ys ++ turn_if b xs)
Built false b e xs ys = e ∷ (turn_if false xs ++ turn_if b ys)

pub built : (e : Edge) (xs ys : List Edge) (b x : Bool) → turn_if b (around b x e xs ys) ≡ Built (differ b x) b e xs ys
unfolding around
built e xs ys false false = refl
built e xs ys false true = refl
built e xs ys true false = reverse-append xs (ys ++ (e ∷ [])) ∙ rw (reverse-append ys (e ∷ []))
built e xs ys true true = reverse-append ys (reverse xs ++ (e ∷ [])) ∙ rw (reverse-append (reverse xs) (e ∷ []), reverse-reverse xs)

-- turned, or not
pub turn_if_turned : (b t : Bool) (xs : List Edge) → differ b t ≡ true → reverse (turn_if b xs) ≡ turn_if t xs
turn_if_turned true false xs h = reverse-reverse xs
turn_if_turned false true xs h = refl
turn_if_turned true true xs h = absurd (false≢true h)
turn_if_turned false false xs h = absurd (false≢true h)

pub turn_if_kept : (b t : Bool) (xs : List Edge) → differ b t ≡ false → turn_if b xs ≡ turn_if t xs
turn_if_kept true true xs h = refl
turn_if_kept false false xs h = refl
turn_if_kept true false xs h = absurd (true≢false h)
turn_if_kept false true xs h = absurd (true≢false h)

pub turn_if_one : (b : Bool) (e : Edge) → turn_if b (e ∷ []) ≡ e ∷ []
turn_if_one true e = refl
turn_if_one false e = refl

pub turn_if_none : (b : Bool) → turn_if b [] ≡ []
turn_if_none true = refl
turn_if_none false = refl

-- the columns of a rim or a stem at a side and at a triangle
pub side_columns : (p : Role) (d : ℕ) (t : Tree) (u v : ℕ) → is_hung p ≡ false → t ≡ leaf → columns p d t u v ≡ (u — v) ∷ []
unfolding columns side_column
side_columns Hung d t u v h e = absurd (true≢false h)
side_columns LeftRim d t u v h e = rw e
side_columns RightRim d t u v h e = rw e
side_columns FromLeft d t u v h e = rw e
side_columns FromRight d t u v h e = rw e

pub own_columns : (p : Role) (d : ℕ) (l r : Tree) (u v : ℕ) (s : Step) → is_hung p ≡ false → step_of p d l r ≡ s
    → columns p d (node l r) u v ≡ around (from_right p) s.crossed (u — v) (columns s.left d l u (u + span l)) (columns s.right d r (u + span l) v)
unfolding columns arranged
own_columns Hung d l r u v s h e = absurd (true≢false h)
own_columns LeftRim d l r u v s h e = rw e
own_columns RightRim d l r u v s h e = rw e
own_columns FromLeft d l r u v s h e = rw e
own_columns FromRight d l r u v s h e = rw e

pub hung_side : (d : ℕ) (t : Tree) (u v : ℕ) → t ≡ leaf → columns Hung d t u v ≡ []
unfolding columns side_column
hung_side d t u v e = rw e

pub rims : (d : ℕ) (l r : Tree) (u v k : ℕ) → ud (node l r) - 1 ≡ k → columns Hung d (node l r) u v ≡ columns LeftRim k l u (u + span l) ++ columns RightRim k r (u + span l) v
unfolding columns step_at arranged
rims d l r u v k e = rw e

pub turn_if_length : (t : Bool) (xs : List Edge) → length (turn_if t xs) ≡ length xs
turn_if_length true xs = length-reverse xs
turn_if_length false xs = refl

around_length : (b x : Bool) (e : Edge) (xs ys : List Edge) → length (around b x e xs ys) ≤ suc (length xs + length ys)
unfolding around
around_length false false e xs ys = omega (arith, length-append xs ys)
around_length false true e xs ys = omega (arith, length-append (reverse ys) xs, length-reverse ys)
around_length true false e xs ys = omega (arith, length-append xs (ys ++ (e ∷ [])), length-append ys (e ∷ []))
around_length true true e xs ys = omega (arith, length-append ys (reverse xs ++ (e ∷ [])), length-append (reverse xs) (e ∷ []), length-reverse xs)

arranged_length : (p : Role) (x : Bool) (e : Edge) (xs ys : List Edge) → length (arranged p x e xs ys) ≤ suc (length xs + length ys)
unfolding arranged
arranged_length Hung x e xs ys = omega (arith, length-append xs ys)
arranged_length LeftRim x e xs ys = around_length true x e xs ys
arranged_length RightRim x e xs ys = around_length false x e xs ys
arranged_length FromLeft x e xs ys = around_length false x e xs ys
arranged_length FromRight x e xs ys = around_length true x e xs ys

side_length : (p : Role) (e : Edge) → length (side_column p e) ≤ 1
unfolding side_column
side_length Hung e = omega arith
side_length LeftRim e = omega arith
side_length RightRim e = omega arith
side_length FromLeft e = omega arith
side_length FromRight e = omega arith

pub few_columns : (t : Tree) (p : Role) (d u v : ℕ) → length (columns p d t u v) < 2 * span t
unfolding columns span
few_columns leaf p d u v = omega (arith, side_length p (u — v))
few_columns (node l r) p d u v =
    let s = step_of p d l r in
    let k : ℕ = levels_under p d (ud (node l r) - 1) in
    let c : ℕ = u + span l in
    omega (arith, arranged_length p s.crossed (u — v) (columns s.left k l u c) (columns s.right k r c v), few_columns l s.left k u c, few_columns r s.right k c v)
