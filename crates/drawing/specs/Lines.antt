-- The rows of the corners strictly inside a piece, by the role of the piece in an umbrella.
-- (`rows_best` in proofs/Ranked.antt: they are those of the plan drawn.)
use Rattle.std.specs.Prelude.{Bool, true, false, not, List, [], ◌∷◌, ◌++◌, ℕ, ◌+◌, ◌-◌, ◌*◌}
use Rattle.polygon.specs.Tree.{Tree, leaf, node}
use Rattle.umbrella.specs.Values.{ud}
use Rattle.umbrella.specs.declared.roles.Role.{Role}
use Rattle.umbrella.specs.declared.roles.Role.TheVariants.{Hung, LeftRim, RightRim, FromLeft, FromRight}
use Rattle.umbrella.specs.Roles.{step_of}
use Rattle.drawing.specs.declared.lines.Line.{Line}

-- "A hung piece on row 2D goes upwards, on row 1 downwards; its row 0 is that row": the row of the part on which row r of a hung piece lies
abbrev pub on_line : (down : Bool) (base r : ℕ) → ℕ
on_line true base r = base + r
on_line false base r = base - r

abbrev pub row_at : Line → ℕ → ℕ
row_at m r = on_line m.down m.base r

-- for the pieces hung on row 2D and on row 1 of a piece that has D levels and lies on the line m
abbrev pub far_line : ℕ → Line → Line
far_line D m = record { base = row_at m (2 * D); down = not m.down }

abbrev pub near_line : Line → Line
near_line m = record { base = row_at m 1; down = m.down }

-- on from a triangle: the levels under the umbrella, the lines of the left and of the right piece and of the near row, the row of the third corner
pub record Lines : Type 0 where
  pub d : ℕ
  pub left : Line
  pub right : Line
  pub near : Line
  pub middle : ℕ

-- crossed, the rim beyond the gate and the pieces hung beside a stem lie on the near line
unfoldable pub aside : (right crossed : Bool) → ℕ → Line → Line → Lines
aside k false d far near = record { d = d; left = far; right = far; near = near; middle = far.base }
aside true true d far near = record { d = d; left = near; right = far; near = near; middle = near.base }
aside false true d far near = record { d = d; left = far; right = near; near = near; middle = near.base }

-- the lines of the two pieces beyond a triangle, and the row of its third corner; n are the levels of its piece
unfoldable pub lines_at : Role → Bool → (d n : ℕ) → Line → Line → Lines
lines_at Hung k d n far near = record { d = n - 1; left = far_line n far; right = far_line n far; near = near_line far; middle = (far_line n far).base }
lines_at LeftRim k d n far near = aside true k d far near
lines_at RightRim k d n far near = aside false k d far near
lines_at FromLeft k d n far near = aside false k d far near
lines_at FromRight k d n far near = aside true k d far near

abbrev pub lines_of : Role → ℕ → Line → Line → Tree → Tree → Lines
lines_of p d far near l r = lines_at p (step_of p d l r).crossed d (ud (node l r)) far near

-- in the order of the corners
unfoldable pub ranks : Role → ℕ → Line → Line → Tree → List ℕ
ranks p d far near leaf = []
ranks p d far near (node l r) =
    let s = step_of p d l r in
    let q = lines_of p d far near l r in
    ranks s.left q.d q.left q.near l ++ (q.middle ∷ ranks s.right q.d q.right q.near r)
