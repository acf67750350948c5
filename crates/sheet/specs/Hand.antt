-- How the code holds a part: a head, and the bends of its diagonals at the start of a table.
use Rattle.std.specs.Prelude.{Bool, true, false, List, ℕ, ◌-◌, take}
use Rattle.polygon.specs.Angles.{Angles, none, each}
use Rattle.polygon.specs.Polygon.{Polygon}
use Rattle.keys.specs.Keys.{edges_of, keys_in, angles_in}
use Rattle.sheet.specs.declared.Head.{Head}

-- the angles beside the keys of bends, if the head says that there are any
abbrev pub angles_by : Bool → List ℕ → Angles
angles_by true bs = each (angles_in bs)
angles_by false bs = none

-- the part of a head and a table that begins with the bends of its diagonals
abbrev pub part_of : Head → List ℕ → Polygon
part_of h bs = record { n = h.n; ds = edges_of (keys_in (take (h.n - 3) bs)); angles = angles_by h.angled (take (h.n - 3) bs) }

-- the part without angles whose diagonals have these keys
abbrev pub flat_part : ℕ → List ℕ → Polygon
flat_part n ks = record { n = n; ds = edges_of ks; angles = none }

-- whether a part has angles; and its head
abbrev pub has_angles : Angles → Bool
has_angles none = false
has_angles (each vs) = true

abbrev pub head_of : Polygon → Head
head_of p = record { n = p.n; angled = has_angles p.angles }
