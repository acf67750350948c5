-- The tests of the pairs and their angles, which come after all others.
use mathlib.Core.List.{List}
use Prim.Native.Nat.{ℕ}
use Rattle.lists.specs.Lists.{all?}
use Rattle.polygon.specs.Angles.{Angles, allowed?}
use Rattle.polygon.specs.Polygon.{Edge}
use Rattle.polygon.specs.Order.{diagonal?, distinct?, none_cross?, sort}
use Rattle.polygon.specs.Carried.{carried}
use Rattle.sheet.specs.Sheet.{Reading, held, ask}

abbrev pub pair_tests : ℕ → List Edge → Angles → Reading
pair_tests n es xs =
    ask 5 (all? (diagonal? n) es)
    (ask 6 (distinct? es)
    (ask 7 (none_cross? es)
    (ask 23 (allowed? n xs)
    (held (record { n = n; ds = sort es; angles = carried es xs (sort es) })))))
