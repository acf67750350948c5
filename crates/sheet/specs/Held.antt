-- What the code finds in a sheet, step by step, and what it answers.
use Rattle.std.specs.Prelude.{◌≡◌, Result, Ok, Err, Option, Some, None, Bool, true, false, List, map, ℕ, ◌+◌, ◌*◌, ◌-◌, ◌%◌, ◌≤◌, ◌<◌, length, take, get_or}
use Rattle.polygon.specs.Polygon.{Edge, Diagonal, Polygon}
use Rattle.polygon.specs.Order.{lower_first}
use Rattle.codec.specs.Numbers.{get16}
use Rattle.lists.specs.Lists.{All}
use Rattle.keys.specs.Keys.{key_of, edges_of, keys_in, code_of}
use Rattle.sheet.specs.declared.Head.{Head}
use Rattle.codec.specs.declared.refusal.Refusal.{Refusal}
use Rattle.codec.specs.Numbered.{number_of}
use Rattle.sheet.specs.Sheet.{Reading, refused, held, bit3, field, pairs, angles, read_sheet}
use Rattle.sheet.specs.Framed.{Framed}

-- what the code's answer says of a sheet: the part, or the number of the refusal
abbrev pub reading_of : Result Polygon Refusal → Reading
reading_of (Ok p) = held p
reading_of (Err r) = refused (number_of r)

-- a table begins with the keys of the diagonals of the part that was read
abbrev pub KeysSay : Result Polygon Refusal → List ℕ → Type 0
KeysSay (Ok p) ks = edges_of (take (p.n - 3) ks) ≡ p.ds
KeysSay (Err r) ks = Unit {0}

-- the keys are of edges whose corners are below 1,024
abbrev pub SmallKeys : List ℕ → Type 0
SmallKeys ks = (j : ℕ) → j < length ks → get_or ks j 0 < 1048576

-- 1 for true
abbrev pub bit : Bool → ℕ
bit true = 1
bit false = 0

-- how long the normal sheet of the part is
abbrev pub normal_length : Head → ℕ
normal_length h = 3 + 4 * (h.n - 3) + field (bit h.angled) (2 * (h.n - 3))

-- a head that was read: the sheet refused, or its frame and what the head holds of it
pub record HeadOf (s : List ℕ) (h : Head) : Type 0 where
  pub frame : Framed s
  pub corners : h.n ≡ get16 s 1
  pub with_angles : bit h.angled ≡ bit3 (get_or s 0 0)

abbrev pub HeadSays : List ℕ → Result Head Refusal → Type 0
HeadSays s (Err r) = read_sheet s ≡ refused (number_of r)
HeadSays s (Ok h) = HeadOf s h

-- the pair at a place of a sheet, with its lower corner first
abbrev pub pair_at : List ℕ → ℕ → Edge
pair_at s at = lower_first (get16 s at, get16 s (at + 2))

-- the key of a diagonal e, or none and e is no diagonal
abbrev pub KeyIs : ℕ → Edge → Option ℕ → Type 0
KeyIs n e None = ¬ Diagonal n e
KeyIs n e (Some k) = Diagonal n e × (k ≡ key_of e)

-- the bends that were read of a sheet's pairs, all of them diagonals, in the listed order; with their angles' bits, if there are any
pub record BendsRead (s : List ℕ) (n : ℕ) (angled : Bool) (bs : List ℕ) : Type 0 where
  pub diagonals : All (Diagonal n) (pairs s 3 (n - 3))
  pub edges : edges_of (keys_in (take (n - 3) bs)) ≡ pairs s 3 (n - 3)
  pub codes : angled ≡ true → map (λ b. b % 4096) (take (n - 3) bs) ≡ map code_of (angles s (length s - 2 * (n - 3)) (n - 3))

-- the angle of a bend is in range
abbrev pub CodeFits : ℕ → Type 0
CodeFits b = b % 4096 ≤ 3600

-- the angles of bends are allowed
abbrev pub CodesBy : Bool → ℕ → List ℕ → Type 0
CodesBy true n bs = (3 < n) × All CodeFits bs
CodesBy false n bs = Unit {0}

abbrev pub CodesAllowed : Head → List ℕ → Type 0
CodesAllowed h bs = CodesBy h.angled h.n bs
