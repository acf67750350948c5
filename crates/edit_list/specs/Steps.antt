-- What the functions of src/ ensure of one edit of a list, and what they require of the desk. For the contracts of src/.
use Rattle.std.specs.Prelude.{◌≡◌, Result, Ok, Err, List, [], ℕ, ◌≤◌, length}
use Rattle.codec.specs.declared.refusal.Refusal.{Refusal}
use Rattle.codec.specs.Numbered.{number_of}
use Rattle.codec.specs.Answer.{answered}
use Rattle.edit.specs.Rules.{Edit}
use Rattle.edit_list.specs.declared.Desk as code
use Rattle.edit_list.specs.declared.Left.{Left}
use Rattle.edit_list.specs.Desk.{Desk, desk_of, answer_of, desk_step}
use Rattle.edit_list.specs.Result.{place_number}

-- the desk, by what the code keeps of it and the buffers
abbrev pub desk_by : Left → List ℕ → List ℕ → Desk
desk_by l front back = desk_of (place_number l.place) l.size front back

abbrev pub desk_in : code.Desk → Desk
desk_in d = desk_by d.left d.front.now d.back.now

-- the number and the length of an answer
abbrev pub written_number : Result ℕ Refusal → ℕ
written_number w = (answered w []).number

abbrev pub written_size : Result ℕ Refusal → ℕ
written_size w = (answered w []).size

-- a sheet that lies in a buffer is no longer than either buffer
abbrev pub SheetLies : Desk → Type 0
SheetLies d = ¬ (d.place ≡ 0) → (d.size ≤ length d.front) × (d.size ≤ length d.back)

-- either buffer has `room` bytes
abbrev pub Spacious : ℕ → Desk → Type 0
Spacious room d = (room ≤ length d.front) × (room ≤ length d.back)

-- an edit on the desk d: the code's answer w, and the buffers afterwards
pub record Lent (first : List ℕ) (d : Desk) (x : Edit × ℕ) (w : Result ℕ Refusal) (front back : List ℕ) : Type 0 where
  pub answer_number : written_number w ≡ (answer_of first d x).number
  pub answer_size : written_size w ≡ (answer_of first d x).size
  pub front_after : front ≡ (desk_step first d x).front
  pub back_after : back ≡ (desk_step first d x).back

-- the number of an edit
abbrev pub number_after : Result (Unit {0}) Refusal → ℕ
number_after (Ok u) = 0
number_after (Err r) = number_of r
