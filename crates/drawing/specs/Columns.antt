-- The columns of a piece by its role in an umbrella.
-- (`columns_best` in proofs/Planned.antt: they are those of the plan drawn.)
use Rattle.std.specs.Prelude.{Bool, true, false, List, [], ◌∷◌, ◌++◌, reverse, ℕ, ◌+◌, ◌-◌}
use Rattle.polygon.specs.Polygon.{Edge, ◌—◌}
use Rattle.polygon.specs.Tree.{Tree, leaf, node, span}
use Rattle.umbrella.specs.Values.{ud}
use Rattle.umbrella.specs.declared.roles.Role.{Role}
use Rattle.umbrella.specs.declared.roles.Role.TheVariants.{Hung, LeftRim, RightRim, FromLeft, FromRight}
use Rattle.umbrella.specs.Roles.{step_of, levels_under}

-- the column e of an edge before or behind the columns of the left and of the right piece. If these are crossed, the rim beyond the gate is reversed, or the piece hung beside a stem.
unfoldable pub around : (right crossed : Bool) → Edge → List Edge → List Edge → List Edge
around false false e xs ys = e ∷ (xs ++ ys)
around false true e xs ys = e ∷ (reverse ys ++ xs)
around true false e xs ys = xs ++ (ys ++ (e ∷ []))
around true true e xs ys = ys ++ (reverse xs ++ (e ∷ []))

-- a hung piece has no column of its root edge
unfoldable pub arranged : Role → Bool → Edge → List Edge → List Edge → List Edge
arranged Hung k e xs ys = xs ++ ys
arranged LeftRim k e xs ys = around true k e xs ys
arranged RightRim k e xs ys = around false k e xs ys
arranged FromLeft k e xs ys = around false k e xs ys
arranged FromRight k e xs ys = around true k e xs ys

unfoldable pub side_column : Role → Edge → List Edge
side_column Hung e = []
side_column LeftRim e = e ∷ []
side_column RightRim e = e ∷ []
side_column FromLeft e = e ∷ []
side_column FromRight e = e ∷ []

-- of the piece t on the corners u to v
unfoldable pub columns : Role → ℕ → Tree → ℕ → ℕ → List Edge
columns p d leaf u v = side_column p (u — v)
columns p d (node l r) u v =
    let s = step_of p d l r in
    let k = levels_under p d (ud (node l r) - 1) in
    arranged p s.crossed (u — v) (columns s.left k l u (u + span l)) (columns s.right k r (u + span l) v)
