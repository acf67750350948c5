-- How the code draws a piece: on from a triangle of a rim or a stem, and what is then written.
use Rattle.std.specs.Prelude.{◌≡◌, Bool, true, false, not, List, map, reverse, ℕ, ◌+◌, ◌*◌, ◌-◌, ◌≤◌, ◌<◌, length}
use Rattle.std.proofs.lemmas.List.Edits.{sets}
use Rattle.lists.specs.Lists.{All}
use Rattle.polygon.specs.Polygon.{Edge}
use Rattle.polygon.specs.Tree.{Tree}
use Rattle.umbrella.specs.declared.roles.Role.TheVariants.{LeftRim, RightRim}
use Rattle.umbrella.specs.declared.roles.Step.{Step}
use Rattle.tree.specs.declared.Root.{Root}
use Rattle.tree.specs.declared.Two.{Two}
use Rattle.tree.specs.Table.{edge_at}
use Rattle.drawing.specs.declared.lines.Line.{Line}
use Rattle.drawing.specs.declared.lines.Way.{Way}
use Rattle.drawing.specs.declared.lines.Next.{Next}
use Rattle.drawing.specs.declared.lines.Rims.{Rims}
use Rattle.drawing.specs.Columns.{columns}
use Rattle.drawing.specs.Lines.{ranks}

abbrev pub differ : Bool → Bool → Bool
differ true b = not b
differ false b = b

-- crossed, the rim beyond the gate and the pieces hung beside a stem lie on the near line
abbrev pub beside_line : Bool → Line → Line → Line
beside_line true far near = near
beside_line false far near = far

-- the rim or stem goes on to the left, and the piece to the right is beside it and reversed; or the other way round
abbrev pub next_by : Bool → Line → Two → Step → Way → Next
next_by true m t s w = record {
  beside = t.right;
  way = record { role = s.right; turned = true; d = w.d; far = m; near = w.near };
  on = t.left;
  role = s.left;
}
next_by false m t s w = record {
  beside = t.left;
  way = record { role = s.left; turned = false; d = w.d; far = m; near = w.near };
  on = t.right;
  role = s.right;
}

abbrev pub next_of : Two → Step → Bool → Way → Next
next_of t s right w = next_by (differ right s.crossed) (beside_line s.crossed w.far w.near) t s w

-- the rims of an umbrella in the order of their columns
abbrev pub rims_of : Two → Bool → Rims
rims_of t true = record { first = t.right; second = t.left; role = RightRim; other = LeftRim }
rims_of t false = record { first = t.left; second = t.right; role = LeftRim; other = RightRim }

-- "It is reversed left to right"
abbrev pub turn_if : Bool → List Edge → List Edge
turn_if true es = reverse es
turn_if false es = es

-- a place that holds an edge, lower corner first
pub record HoldsEdge (tr : List ℕ) (e : ℕ) : Type 0 where
  pub inside : e < 2045
  pub lower_first : (edge_at tr e).0 < (edge_at tr e).1

-- the places of the columns es stand from `at` on in the table o', and n is the next place
pub record Noted (tr : List ℕ) (es : List Edge) (at : ℕ) (o o' : List ℕ) (n : ℕ) : Type 0 where
  pub places : List ℕ
  pub are : map (edge_at tr) places ≡ es
  pub held : All (HoldsEdge tr) places
  pub outs : o' ≡ sets o at places
  pub end : n ≡ at + length places

-- the columns of a piece with the tree t, and the rows of the corners inside it, are written
pub record Walked (tr : List ℕ) (p : Root) (w : Way) (t : Tree) (at : ℕ) (cols rows cols' rows' : List ℕ) (n : ℕ) : Type 0 where
  pub drawn : Noted tr (turn_if w.turned (columns w.role w.d t p.u p.v)) at cols cols' n
  pub ranked : rows' ≡ sets rows (p.u + 1) (ranks w.role w.d w.far w.near t)

-- there is room: two columns for each side, and rows that stay small
pub record Room (p : Root) (w : Way) (at : ℕ) (cols rows : List ℕ) : Type 0 where
  pub fits : at + 2 * (p.v - p.u) ≤ 2048
  pub far_small : w.far.base + 20 * (p.v - p.u) ≤ 50000
  pub near_small : w.near.base + 20 * (p.v - p.u) ≤ 50000
  pub columns_size : length cols ≡ 2048
  pub rows_size : length rows ≡ 1024
