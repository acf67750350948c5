-- What running an encoded list of edits gives: the number, the place and the length of the sheet left, and the lent bytes afterwards.
use Rattle.std.specs.Prelude.{◌≡◌, Result as Either, Ok, Err, List, ◌++◌, ℕ, ◌+◌, ◌*◌, ◌≤◌, ◌<◌, length, drop}
use Rattle.std.proofs.Math.Decide.{ℕ_discrete}
use Rattle.lists.specs.Lists.{choose}
use Rattle.polygon.specs.Polygon.{Polygon}
use Rattle.codec.specs.Numbers.{run16}
use Rattle.codec.specs.Unpacked.{number_in, place_in, left_in, OneNumber}
use Rattle.edit.specs.Model.{model_numbers, model_sheet}
use Rattle.codec.specs.declared.refusal.Refusal.{Refusal}
use Rattle.codec.specs.Numbered.{number_of}
use Rattle.edit_list.specs.declared.Place.{Place}
use Rattle.edit_list.specs.declared.Place.TheVariants.{First, Front, Back}
use Rattle.edit_list.specs.declared.Left.{Left}
use Rattle.edit_list.specs.Script.{script_of, fault_of}
use Rattle.edit_list.specs.Desk.{placed, begin, sheet_at, desk_after, numbers_of}

pub record Result : Type 0 where
  pub number : ℕ
  pub place : ℕ
  pub size : ℕ
  pub front : List ℕ
  pub back : List ℕ
  pub outs : List ℕ

-- a refusal gives its number and zeros, and changes no lent memory
abbrev pub unchanged : ℕ → List ℕ → List ℕ → List ℕ → Result
unchanged k front back outs = record { number = k; place = 0; size = 0; front = front; back = back; outs = outs }

-- the output for the numbers: two bytes for each, from the start; the rest stays
unfoldable pub numbered : List ℕ → List ℕ → List ℕ
numbered ns outs = run16 ns ++ drop (length (run16 ns)) outs

unfoldable pub finished : List ℕ → List ℕ → List ℕ → List ℕ → List ℕ → Result
finished first list front back outs =
    let d = desk_after first (begin first front back) (script_of list) in
    record {
      number = 0;
      place = d.place;
      size = d.size;
      front = d.front;
      back = d.back;
      outs = numbered (numbers_of first (begin first front back) (script_of list)) outs;
    }

unfoldable pub result_of : List ℕ → List ℕ → List ℕ → List ℕ → List ℕ → Result
result_of first list front back outs =
    let k = fault_of list (length front) (length back) (length outs) in
    choose (ℕ_discrete k 0) (finished first list front back outs) (unchanged k front back outs)

-- the number of a place
abbrev pub place_number : Place → ℕ
place_number First = 0
place_number Front = 1
place_number Back = 2

-- the number and the values of each case of the code's answer, with the lent bytes at its return
abbrev pub ran_of : Either Left Refusal → List ℕ → List ℕ → List ℕ → Result
ran_of (Ok l) front back outs = record { number = 0; place = place_number l.place; size = l.size; front = front; back = back; outs = outs }
ran_of (Err r) front back outs = unchanged (number_of r) front back outs

-- the numbers written are the plain part's, and the sheet left is the plain part's, from a first sheet that holds p
pub record AsModel (first : List ℕ) (p : Polygon) (list outs : List ℕ) (r : Result) : Type 0 where
  pub same_numbers : r.outs ≡ numbered (model_numbers p (script_of list)) outs
  pub same_sheet : sheet_at r.place r.size first r.front r.back ≡ model_sheet first p (script_of list)

-- the result in one number, for C: the number in the low 16 bits, the place in the next 16, the length above them; that of the first sheet is not told
abbrev pub packed_run : Result → ℕ
packed_run r = r.number + r.place * 65536 + placed r.place 0 r.size r.size * 4294967296

-- the result is read back from that number, as include/bend.h reads it
pub record RunReadsBack (r : Result) : Type 0 where
  pub number_back : number_in (packed_run r) ≡ r.number
  pub place_back : place_in (packed_run r) ≡ r.place
  -- the length of the sheet left in a buffer; 0 if the first sheet is left
  pub left_back : ¬ (r.place ≡ 0) → left_in (packed_run r) ≡ r.size
  pub first_back : r.place ≡ 0 → left_in (packed_run r) ≡ 0
  pub one_number : OneNumber (packed_run r)

-- the place and the length are small enough for that
abbrev pub SmallRun : ℕ → ℕ → Type 0
SmallRun place size = (place ≤ 2) × (¬ (place ≡ 0) → size < 4294967296)

abbrev pub Tellable : Either Left Refusal → Type 0
Tellable (Ok l) = SmallRun (place_number l.place) l.size
Tellable (Err r) = Unit {0}
