-- A list of edits in bytes, and the tests that it must pass before it is run.
-- An edit is 13 bytes: the kind (0: add a corner on a side, 1: take off a corner, 2: turn a diagonal), and three numbers of four bytes, high byte first:
-- the side, the corner or a; b, which is read for kind 2 only and is any number else; the length of output to lend.
-- Refusals, in the order in which they are tested, before anything is written:
-- 32: the length is no multiple of 13. 33: a kind is above 2. 34: the output for the numbers is shorter than two bytes an edit.
-- 35: an edit lends more than the front buffer has, or more than the back buffer has.
use Rattle.std.proofs.Math.Logic.Dec.{and as dec_and}
use Rattle.std.specs.Prelude.{List, [], ◌∷◌, ℕ, zero, suc, ◌+◌, ◌*◌, ◌/◌, ◌%◌, ◌≤◌, length, get_or}
use Rattle.std.proofs.Math.Decide.{dec_le, ℕ_discrete}
use Rattle.lists.specs.Lists.{All, all?, below, choose}
use Rattle.codec.specs.Numbers.{get32}
use Rattle.edit.specs.Rules.{Edit, add_ear, remove_ear, flip}

-- how many edits a list has
abbrev pub count : List ℕ → ℕ
count s = length s / 13

-- the kind of edit i, counted from 0, and the length that it lends
abbrev pub kind_at : List ℕ → ℕ → ℕ
kind_at s i = get_or s (i * 13) 0

abbrev pub room_at : List ℕ → ℕ → ℕ
room_at s i = get32 s (i * 13 + 9)

-- an edit by its kind and its numbers
unfoldable pub edit_by : ℕ → ℕ → ℕ → Edit
edit_by zero a b = add_ear a
edit_by (suc zero) a b = remove_ear a
edit_by (suc (suc k)) a b = flip a b

-- edit i, and the k edits from it on, each with the length that it lends
unfoldable pub edit_at : List ℕ → ℕ → Edit × ℕ
edit_at s i = (edit_by (kind_at s i) (get32 s (i * 13 + 1)) (get32 s (i * 13 + 5)), room_at s i)

unfoldable pub edits : List ℕ → ℕ → ℕ → List (Edit × ℕ)
edits s i zero = []
edits s i (suc k) = edit_at s i ∷ edits s (suc i) k

unfoldable pub script_of : List ℕ → List (Edit × ℕ)
script_of s = edits s 0 (count s)

-- each kind is known; each length is at most that of the front buffer and that of the back buffer
abbrev pub Kinds : List ℕ → Type 0
Kinds s = All (λ i. kind_at s i ≤ 2) (below (count s))

abbrev pub Rooms : List ℕ → ℕ → ℕ → Type 0
Rooms s front back = All (λ i. (room_at s i ≤ front) × (room_at s i ≤ back)) (below (count s))

unfoldable pub kinds? : (s : List ℕ) → Dec (Kinds s)
kinds? s = all? (λ i. dec_le (kind_at s i) 2) (below (count s))

unfoldable pub rooms? : (s : List ℕ) (front back : ℕ) → Dec (Rooms s front back)
rooms? s front back = all? (λ i. dec_and (dec_le (room_at s i) front) (dec_le (room_at s i) back)) (below (count s))

-- the number of the first test that fails, or 0, by the list and the lengths of the front buffer, the back buffer and the output for the numbers
unfoldable pub test : {P : Type 0} → ℕ → Dec P → ℕ → ℕ
test k d r = choose d r k

unfoldable pub fault_of : List ℕ → ℕ → ℕ → ℕ → ℕ
fault_of s front back numbers =
    test 32 (ℕ_discrete (length s % 13) 0)
    (test 33 (kinds? s)
    (test 34 (dec_le (count s * 2) numbers)
    (test 35 (rooms? s front back) 0)))
