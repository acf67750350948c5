-- How the code holds a part that is cut: its bends, parted in two tables.
use Rattle.std.specs.Prelude.{◌&&◌, List, ℕ, ltb}
use Rattle.lists.specs.Lists.{keep, not?}
use Rattle.polygon.specs.Polygon.{Edge}
use Rattle.keys.specs.Keys.{edge_of, key_in}
use Rattle.sheet.specs.declared.Head.{Head}
use Rattle.cut.specs.Cut.{beneath?}

-- the bends of the diagonals that lie beneath a cut, and the others
abbrev pub inner_bends : Edge → List ℕ → List ℕ
inner_bends c bs = keep (λ b. beneath? c (edge_of (key_in b))) bs

abbrev pub rest_bends : Edge → List ℕ → List ℕ
rest_bends c bs = keep (λ b. not? (beneath? c (edge_of (key_in b)))) bs

-- the head of a part of n corners that comes from one of the head h
abbrev pub head_on : Head → ℕ → Head
head_on h n = record { n = n; angled = h.angled && ltb 3 n }
