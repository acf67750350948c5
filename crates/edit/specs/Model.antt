-- The plain part (document 01): it keeps a polygon and is fed, for each edit, its kind, its numbers and the length of the output lent, and nothing of the program's.
use Rattle.std.specs.Prelude.{Bool, true, false, ◌||◌, List, [], ◌∷◌, ℕ, length}
use Rattle.std.proofs.Math.Decide.{dec_le}
use Rattle.polygon.specs.Polygon.{Polygon}
use Rattle.sheet.specs.Sheet.{Reading, refused, held, ask, normal_sheet}
use Rattle.edit.specs.Rules.{Edit, rule}

-- "Each is refused by 8, last, if the output is shorter than the normal sheet that would result"
unfoldable pub fitting : ℕ → Reading → Reading
fitting room (refused k) = refused k
fitting room (held q) = ask 8 (dec_le (length (normal_sheet q)) room) (held q)

unfoldable pub step : Polygon → Edit → ℕ → Reading
step p e room = fitting room (rule e p)

-- "A refused edit gives its number and changes nothing; a taken one gives 0"
unfoldable pub number_given : Reading → ℕ
number_given (refused k) = k
number_given (held q) = 0

unfoldable pub after : Polygon → Reading → Polygon
after p (refused k) = p
after p (held q) = q

unfoldable pub is_taken : Reading → Bool
is_taken (refused k) = false
is_taken (held q) = true

-- a list of edits, each with the length of the output lent: the numbers given, the polygon at the end, whether any edit was taken
unfoldable pub model_numbers : Polygon → List (Edit × ℕ) → List ℕ
model_numbers p [] = []
model_numbers p (x ∷ xs) = let r = step p x.0 x.1 in number_given r ∷ model_numbers (after p r) xs

unfoldable pub left : Polygon → List (Edit × ℕ) → Polygon
left p [] = p
left p (x ∷ xs) = left (after p (step p x.0 x.1)) xs

unfoldable pub taken : Polygon → List (Edit × ℕ) → Bool
taken p [] = false
taken p (x ∷ xs) = let r = step p x.0 x.1 in is_taken r || taken (after p r) xs

-- the sheet that the plain part leaves: its "normal sheet, or the first sheet if no edit was taken"
unfoldable pub chosen : Bool → List ℕ → List ℕ → List ℕ
chosen true normal first = normal
chosen false normal first = first

unfoldable pub model_sheet : List ℕ → Polygon → List (Edit × ℕ) → List ℕ
model_sheet s p xs = chosen (taken p xs) (normal_sheet (left p xs)) s
