-- The state while a list of edits runs: two lent buffers, front and back, and where the sheet lies that the next edit reads.
use Rattle.std.specs.Prelude.{List, [], ◌∷◌, ◌++◌, ℕ, zero, suc, length, take, drop}
use Rattle.std.proofs.Math.Decide.{ℕ_discrete}
use Rattle.lists.specs.Lists.{choose}
use Rattle.codec.specs.Answer.{Answer}
use Rattle.edit.specs.Rules.{Edit}
use Rattle.edit.specs.Calls.{Call, called}

-- one of three by a place: 0 the first sheet, 1 the front buffer, 2 the back buffer
unfoldable pub placed : {A : Type 0} → ℕ → A → A → A → A
placed zero x y z = x
placed (suc zero) x y z = y
placed (suc (suc k)) x y z = z

-- the place of the sheet that the next edit reads, its length, and the bytes of the buffers
pub record Desk : Type 0 where
  pub place : ℕ
  pub size : ℕ
  pub front : List ℕ
  pub back : List ℕ

abbrev pub desk_of : ℕ → ℕ → List ℕ → List ℕ → Desk
desk_of place size front back = record { place = place; size = size; front = front; back = back }

-- at first the first sheet is read
abbrev pub begin : List ℕ → List ℕ → List ℕ → Desk
begin first front back = desk_of 0 (length first) front back

-- the sheet that lies at a place
abbrev pub sheet_at : ℕ → ℕ → List ℕ → List ℕ → List ℕ → List ℕ
sheet_at place size first front back = placed place first (take size front) (take size back)

abbrev pub current : List ℕ → Desk → List ℕ
current first d = sheet_at d.place d.size first d.front d.back

-- the buffer that an edit writes: front, or back if the sheet lies in front
unfoldable pub other : ℕ → ℕ
other place = placed place 1 2 1

abbrev pub buffer : Desk → List ℕ
buffer d = placed d.place d.front d.back d.front

-- the call that an edit with the length to lend makes, and its answer
abbrev pub call_of : Desk → Edit × ℕ → Call
call_of d x = record { edit = x.0; out = take x.1 (buffer d) }

unfoldable pub answer_of : List ℕ → Desk → Edit × ℕ → Answer
answer_of first d x = called (current first d) (call_of d x)

-- the desk after an answer to an edit that lent `room` bytes: the answer's bytes and the rest of the buffer; the sheet lies there if the number is 0
unfoldable pub answered_desk : Desk → ℕ → Answer → Desk
answered_desk d room a =
    let bytes = a.bytes ++ drop room (buffer d) in
    record {
      place = choose (ℕ_discrete a.number 0) (other d.place) d.place;
      size = choose (ℕ_discrete a.number 0) a.size d.size;
      front = placed d.place bytes d.front bytes;
      back = placed d.place d.back bytes d.back;
    }

unfoldable pub desk_step : List ℕ → Desk → Edit × ℕ → Desk
desk_step first d x = answered_desk d x.1 (answer_of first d x)

-- a list of edits from a desk: the desk afterwards, the numbers answered, and the calls made
unfoldable pub desk_after : List ℕ → Desk → List (Edit × ℕ) → Desk
desk_after first d [] = d
desk_after first d (x ∷ xs) = desk_after first (desk_step first d x) xs

unfoldable pub numbers_of : List ℕ → Desk → List (Edit × ℕ) → List ℕ
numbers_of first d [] = []
numbers_of first d (x ∷ xs) = (answer_of first d x).number ∷ numbers_of first (desk_step first d x) xs

unfoldable pub calls_of : List ℕ → Desk → List (Edit × ℕ) → List Call
calls_of first d [] = []
calls_of first d (x ∷ xs) = call_of d x ∷ calls_of first (desk_step first d x) xs
