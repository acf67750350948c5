-- Document 01, "Operations and their refusals", and request (xi): the numbers that refuse a sheet.
use Rattle.std.specs.Prelude.{List, [], ◌∷◌, ℕ}
use Rattle.lists.specs.Lists.{Mem}
use Rattle.polygon.specs.Polygon.{Polygon}
use Rattle.sheet.specs.Sheet.{Reading, refused, held}

-- the numbers of the tests of a sheet
abbrev pub sheet_tests : List ℕ
sheet_tests = 1 ∷ 2 ∷ 3 ∷ 4 ∷ 5 ∷ 6 ∷ 7 ∷ 23 ∷ []

-- a reading that is refused is refused by one of these numbers
pub data RefusedBy (ks : List ℕ) : Reading → Type 0 where
  by : {k : ℕ} → Mem k ks → RefusedBy ks (refused k)
  holds : {p : Polygon} → RefusedBy ks (held p)
