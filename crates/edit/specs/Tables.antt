-- What the code's tables say of a polygon. For the contracts of src/.
use Rattle.std.specs.Prelude.{◌≡◌, ◌⊎◌, Option, None, Some, MatchOption, List, ℕ, ◌+◌, ◌*◌, ◌-◌, ◌%◌, ◌<◌, ◌≤◌, get_or}
use Rattle.std.proofs.Math.Decide.{dec_lt}
use Rattle.lists.specs.Lists.{All, choose}
use Rattle.polygon.specs.Polygon.{Edge, Polygon, Valid, Joined}
use Rattle.keys.specs.Keys.{key_of, edge_of, edges_of, key_in, keys_in}
use Rattle.sheet.specs.declared.Head.{Head}
use Rattle.sheet.specs.Hand.{angles_by}
use Rattle.edit.specs.declared.held.Edit as code
use Rattle.edit.specs.declared.held.Edit.TheVariants.{AddEar, RemoveEar, Flip}
use Rattle.edit.specs.declared.shift.Shift.{Shift}
use Rattle.edit.specs.declared.shift.Shift.TheVariants.{Up, Down}
use Rattle.edit.specs.Rules.{Edit, add_ear, remove_ear, flip, both}

-- the edit that the code's value stands for
abbrev pub edit_of : code.Edit → Edit
edit_of (AddEar i) = add_ear i
edit_of (RemoveEar k) = remove_ear k
edit_of (Flip a b) = flip a b

-- a corner renumbered; and that its number stays one below 1,024
abbrev pub moved : Shift → ℕ → ℕ
moved (Up at by) x = choose (dec_lt at x) (x + by) x
moved (Down at by) x = choose (dec_lt at x) (x - by) x

abbrev pub Movable : Shift → ℕ → Type 0
Movable (Up at by) x = (x < 1024) × (at < x → x + by < 1024)
Movable (Down at by) x = (x < 1024) × (at < x → by ≤ x)

-- the corners of the bends can be renumbered
abbrev pub AllMovable : Shift → List ℕ → Type 0
AllMovable s bs = All (λ e. Movable s e.0 × Movable s e.1) (edges_of (keys_in bs))

-- a bend with its corners renumbered, and its angle
abbrev pub moved_bend : Shift → ℕ → ℕ
moved_bend s b = key_of (both (moved s) (edge_of (key_in b))) * 4096 + b % 4096

-- r is the other end of an edge with an end at c, if it has one
abbrev pub OtherEnd : Edge → ℕ → Option ℕ → Type 0
OtherEnd e c None = (¬ (e.0 ≡ c)) × (¬ (e.1 ≡ c))
OtherEnd e c (Some r) = ((e.0 ≡ c) × (r ≡ e.1)) ⊎ ((e.1 ≡ c) × (r ≡ e.0))

-- the places marked by 1 are the corners joined to c
pub record Near (n : ℕ) (ds : List Edge) (c : ℕ) (near : List ℕ) : Type 0 where
  pub joined : (x : ℕ) → x < n → get_or near x 0 ≡ 1 → Joined n ds x c
  pub marked : (x : ℕ) → x < n → Joined n ds x c → get_or near x 0 ≡ 1

-- the corner x is marked by 1 in both tables
abbrev pub InBoth : List ℕ → List ℕ → ℕ → Type 0
InBoth p q x = (get_or p x 0 ≡ 1) × (get_or q x 0 ≡ 1)

-- r is the first corner from `from` on, and below n, that is marked in both tables, if there is one
abbrev pub Common : List ℕ → List ℕ → ℕ → ℕ → Option ℕ → Type 0
Common p q from n r =
    MatchOption r
    ((x : ℕ) → from ≤ x → x < n → ¬ InBoth p q x)
    (λ r. (from ≤ r) × (r < n) × InBoth p q r × ((x : ℕ) → from ≤ x → x < r → ¬ InBoth p q x))

-- the part of a head and the bends of its diagonals, and no others
abbrev pub whole : Head → List ℕ → Polygon
whole h bs = record { n = h.n; ds = edges_of (keys_in bs); angles = angles_by h.angled bs }

pub record Whole (p : Polygon) (h : Head) (bs : List ℕ) : Type 0 where
  pub same : p ≡ whole h bs
  pub valid : Valid (whole h bs)
