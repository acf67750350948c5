-- Known lists of edits, byte by byte, and what running them gives, by computation.
use mathlib.Core.Path.{◌≡◌, refl}
use mathlib.Core.Logic.Dec
use mathlib.Core.List.{List, [], ◌∷◌, ◌++◌}
use Prim.Native.Nat.{ℕ}
use native.Mathlib.Decide.{dec_le, dec_lt, ℕ_discrete}
use lib.ListN.{replicate}
use Rattle.lists.specs.Lists.{All, all_cons, all_nil, all?, below, choose, either?, keep, mem?, not?, numbers, put, recast?, sorted?, three?}
use Rattle.polygon.specs.Angles.{in_range?, allowed?}
use Rattle.polygon.specs.Carried.{angle_of, carried}
use Rattle.polygon.specs.Order.{before?, same?, cross?, none_cross?, diagonal?, distinct?, place, insert, remove, sort, lower_first}
use Rattle.codec.specs.Numbers.{run16}
use Rattle.codec.specs.Answer.{fit, written}
use Rattle.sheet.specs.Sheet.{ask, pairs, angles, count?, more, read_sheet, pair_bytes, map_byte, normal_sheet, outcome}
use Rattle.edit.specs.Rules.{up, down, both, entering, ear_added, neighbours, ear_removed, away?, side?, linked?, joined?, common, enter, flipped, result, rule}
use Rattle.edit.specs.Calls.{on_held, edited, called}
use Rattle.edit_list.specs.Script.{edit_by, edit_at, edits, script_of, kinds?, rooms?, test, fault_of}
use Rattle.edit_list.specs.Desk.{placed, other, answer_of, answered_desk, desk_step, desk_after, numbers_of}
use Rattle.edit_list.specs.Result.{Result, numbered, finished, result_of}

-- n = 4 with the diagonal (0,2)
abbrev pub square : List ℕ
square = 3 ∷ 0 ∷ 4 ∷ 0 ∷ 0 ∷ 0 ∷ 2 ∷ []

-- (0,2) turned, (1,3) turned, a corner added on the root side 3, corner 2 taken off, at which (0,2) ends; each edit lends 12 bytes
abbrev pub turns : List ℕ
turns =
    2 ∷ 0 ∷ 0 ∷ 0 ∷ 0 ∷ 0 ∷ 0 ∷ 0 ∷ 2 ∷ 0 ∷ 0 ∷ 0 ∷ 12
    ∷ 2 ∷ 0 ∷ 0 ∷ 0 ∷ 1 ∷ 0 ∷ 0 ∷ 0 ∷ 3 ∷ 0 ∷ 0 ∷ 0 ∷ 12
    ∷ 0 ∷ 0 ∷ 0 ∷ 0 ∷ 3 ∷ 0 ∷ 0 ∷ 0 ∷ 0 ∷ 0 ∷ 0 ∷ 0 ∷ 12
    ∷ 1 ∷ 0 ∷ 0 ∷ 0 ∷ 2 ∷ 0 ∷ 0 ∷ 0 ∷ 0 ∷ 0 ∷ 0 ∷ 0 ∷ 12
    ∷ []

-- the square with bit 2 and its four bytes; (0,2) turned, with so much room
abbrev pub square_with_bit2 : List ℕ
square_with_bit2 = 7 ∷ 0 ∷ 4 ∷ 0 ∷ 0 ∷ 0 ∷ 2 ∷ 0 ∷ 0 ∷ 0 ∷ 9 ∷ []

abbrev pub turn_in : ℕ → List ℕ
turn_in room = 2 ∷ 0 ∷ 0 ∷ 0 ∷ 0 ∷ 0 ∷ 0 ∷ 0 ∷ 2 ∷ 0 ∷ 0 ∷ 0 ∷ room ∷ []

-- the square with an angle at its diagonal; a corner taken off, and one added
abbrev pub square_with_angle : List ℕ
square_with_angle = 11 ∷ 0 ∷ 4 ∷ 0 ∷ 0 ∷ 0 ∷ 2 ∷ 0 ∷ 9 ∷ []

abbrev pub off_and_on : List ℕ
off_and_on = 1 ∷ 0 ∷ 0 ∷ 0 ∷ 0 ∷ 0 ∷ 0 ∷ 0 ∷ 0 ∷ 0 ∷ 0 ∷ 0 ∷ 9 ∷ 0 ∷ 0 ∷ 0 ∷ 0 ∷ 0 ∷ 0 ∷ 0 ∷ 0 ∷ 0 ∷ 0 ∷ 0 ∷ 0 ∷ 9 ∷ []

-- a first sheet, a list, the bytes of the front buffer, of the back buffer and of the output for the numbers, and what running the list gives
abbrev pub Run : Type 0
Run = List ℕ × List ℕ × List ℕ × List ℕ × List ℕ × Result

abbrev pub runs : List Run
runs =
    -- the first three are taken and the last is refused by 12; the sheet left has 11 bytes and lies in front: n = 5 with (0,2) and (0,3)
    (
      square,
      turns,
      replicate 13 7,
      replicate 14 8,
      replicate 9 9,
      record {
        number = 0;
        place = 1;
        size = 11;
        front = 3 ∷ 0 ∷ 5 ∷ 0 ∷ 0 ∷ 0 ∷ 2 ∷ 0 ∷ 0 ∷ 0 ∷ 3 ∷ 7 ∷ 7 ∷ [];
        back = 3 ∷ 0 ∷ 4 ∷ 0 ∷ 0 ∷ 0 ∷ 2 ∷ 8 ∷ 8 ∷ 8 ∷ 8 ∷ 8 ∷ 8 ∷ 8 ∷ [];
        outs = 0 ∷ 0 ∷ 0 ∷ 0 ∷ 0 ∷ 0 ∷ 0 ∷ 12 ∷ 9 ∷ [];
      },
    )
    -- from a sheet with bit 2: (0,2) turned, with room for six bytes and for seven. The second is taken, and writes no bit 2
    ∷ (
      square_with_bit2,
      turn_in 6 ++ turn_in 7,
      replicate 7 7,
      replicate 7 8,
      replicate 4 9,
      record { number = 0; place = 1; size = 7; front = 3 ∷ 0 ∷ 4 ∷ 0 ∷ 1 ∷ 0 ∷ 3 ∷ []; back = replicate 7 8; outs = 0 ∷ 8 ∷ 0 ∷ 0 ∷ [] },
    )
    -- with room for six only: none is taken, and the first sheet, of eleven bytes, is left as it is
    ∷ (square_with_bit2, turn_in 6, replicate 7 7, replicate 7 8, replicate 4 9, record { number = 0; place = 0; size = 11; front = replicate 7 7; back = replicate 7 8; outs = 0 ∷ 8 ∷ 9 ∷ 9 ∷ [] })
    -- with an angle: (0,2) turned, with room for eight bytes and for nine; (1,3) starts at 0, and bit 3 stays
    ∷ (
      square_with_angle,
      turn_in 8 ++ turn_in 9,
      replicate 9 7,
      replicate 9 8,
      replicate 4 9,
      record { number = 0; place = 1; size = 9; front = 11 ∷ 0 ∷ 4 ∷ 0 ∷ 1 ∷ 0 ∷ 3 ∷ 0 ∷ 0 ∷ []; back = replicate 9 8; outs = 0 ∷ 8 ∷ 0 ∷ 0 ∷ [] },
    )
    -- corner 0 off and a corner on again: the triangle has no bit 3, and so the square that is left has none
    ∷ (
      square_with_angle,
      turn_in 9 ++ off_and_on,
      replicate 9 7,
      replicate 9 8,
      replicate 6 9,
      record { number = 0; place = 1; size = 7; front = 3 ∷ 0 ∷ 4 ∷ 0 ∷ 0 ∷ 0 ∷ 2 ∷ 0 ∷ 0 ∷ []; back = 1 ∷ 0 ∷ 3 ∷ replicate 6 8; outs = replicate 6 0 },
    )
    ∷ []

pub known_runs : All (λ (x : Run). result_of x.0 x.1 x.2 x.3 x.4 ≡ x.5) runs
unfolding result_of finished numbered script_of edits edit_at edit_by fault_of test kinds? rooms? desk_after desk_step numbers_of answer_of answered_desk placed other
    called edited on_held outcome written fit run16 rule ask up both entering ear_added away? side? linked? joined? common enter flipped result carried angle_of down neighbours ear_removed read_sheet pairs angles
    allowed? in_range? three? recast? count? more pair_bytes map_byte normal_sheet Dec.and dec_le dec_lt ℕ_discrete choose put keep numbers below not? either? all? sorted? mem?
    before? same? cross? none_cross? diagonal? distinct? place insert remove sort lower_first
known_runs = all_cons refl (all_cons refl (all_cons refl (all_cons refl (all_cons refl all_nil))))

-- a list, the lengths of the front buffer, the back buffer and the output for the numbers, and the number of the first test that fails, or 0
abbrev pub Case : Type 0
Case = List ℕ × ℕ × ℕ × ℕ × ℕ

abbrev pub cases : List Case
cases =
    -- the empty list; the list above
    ([], 0, 0, 0, 0)
    ∷ (turns, 12, 12, 8, 0)
    -- 14 bytes, with a kind that is not known
    ∷ (3 ∷ replicate 13 0, 0, 0, 0, 32)
    -- a kind that is not known, and no output for its number
    ∷ (3 ∷ replicate 12 0, 0, 0, 0, 33)
    -- output for three numbers and a half, and buffers that are too short
    ∷ (turns, 11, 11, 7, 34)
    -- a front buffer, and a back buffer, that is too short
    ∷ (turns, 11, 12, 8, 35)
    ∷ (turns, 12, 11, 8, 35)
    ∷ []

pub known_faults : All (λ (c : Case). fault_of c.0 c.1 c.2 c.3 ≡ c.4) cases
unfolding fault_of test kinds? rooms? Dec.and dec_le ℕ_discrete choose numbers below all?
known_faults = all_cons refl (all_cons refl (all_cons refl (all_cons refl (all_cons refl (all_cons refl (all_cons refl all_nil))))))
