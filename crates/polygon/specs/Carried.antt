-- Request (xi): whose angle is whose, when the pairs come in another order or under other numbers.
use Rattle.std.specs.Prelude.{List, [], ◌∷◌, map}
use Rattle.lists.specs.Lists.{choose}
use Rattle.polygon.specs.Angles.{Angle, Angles, none, each}
use Rattle.polygon.specs.Polygon.{Edge, Polygon}
use Rattle.polygon.specs.Order.{same?}

-- the angle that stands with the pair e, where vs are the angles of the pairs es, "one for each pair in the listed order"; "starts at 0" if e is not among them
unfoldable pub angle_of : List Edge → List Angle → Edge → Angle
angle_of [] vs e = 0
angle_of (x ∷ es) [] e = 0
angle_of (x ∷ es) (a ∷ vs) e = choose (same? x e) a (angle_of es vs e)

-- the angles of the pairs ds, if those of the pairs es are xs: each moves "with its pair"
unfoldable pub carried : List Edge → Angles → List Edge → Angles
carried es none ds = none
carried es (each vs) ds = each (map (angle_of es vs) ds)

-- the angle of a part's diagonal; 0 for what is none of its diagonals, and if it has no angles
abbrev pub angle_from : List Edge → Angles → Edge → Angle
angle_from ds none e = 0
angle_from ds (each vs) e = angle_of ds vs e

abbrev pub angle_at : Polygon → Edge → Angle
angle_at p e = angle_from p.ds p.angles e
