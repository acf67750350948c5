-- The operations on bytes, as definitions, and a list of calls of them (document 01, "Operations and their refusals" and demand 3).
use Rattle.std.specs.Prelude.{List, [], ◌∷◌, ℕ, length, take}
use Rattle.std.proofs.Math.Decide.{ℕ_discrete}
use Rattle.lists.specs.Lists.{choose}
use Rattle.polygon.specs.Polygon.{Polygon}
use Rattle.codec.specs.Answer.{Outcome, Answer, written}
use Rattle.sheet.specs.Sheet.{Reading, refused, held, read_sheet, outcome}
use Rattle.edit.specs.Rules.{Edit, rule}

-- "1 to 7 as above", by reading the sheet, and then the edit's rule; 8 comes last, by `written`
unfoldable pub on_held : Reading → (Polygon → Reading) → Reading
on_held (refused k) f = refused k
on_held (held p) f = f p

unfoldable pub edited : Edit → List ℕ → Outcome
edited e s = outcome (on_held (read_sheet s) (rule e))

-- a call: an edit, with the bytes of the output lent
pub record Call : Type 0 where
  pub edit : Edit
  pub out : List ℕ

unfoldable pub called : List ℕ → Call → Answer
called s c = written (edited c.edit s) c.out

-- what the plain part is fed of a call
abbrev pub lent : Call → Edit × ℕ
lent c = (c.edit, length c.out)

-- "Each edit reads what the last taken one wrote, at its length, or the first sheet if none was taken"
unfoldable pub sheet_after : List ℕ → Answer → List ℕ
sheet_after s a = choose (ℕ_discrete a.number 0) (take a.size a.bytes) s

-- a list of calls from a first sheet: the numbers answered, and the sheet left
unfoldable pub answers : List ℕ → List Call → List ℕ
answers s [] = []
answers s (c ∷ cs) = let a = called s c in a.number ∷ answers (sheet_after s a) cs

unfoldable pub sheet_left : List ℕ → List Call → List ℕ
sheet_left s [] = s
sheet_left s (c ∷ cs) = sheet_left (sheet_after s (called s c)) cs
