-- Known sheets, byte by byte, and what reading each gives: one list with one proof over it.
use mathlib.Core.Path.{◌≡◌, refl}
use mathlib.Core.List.{List, [], ◌∷◌, map}
use mathlib.Core.Logic.Dec
use Prim.Native.Nat.{ℕ}
use native.Mathlib.Decide.{dec_le, dec_lt, ℕ_discrete}
use Rattle.lists.specs.Lists.{All, all_cons, all_nil, all?, choose, either?, not?, recast?, sorted?, three?}
use Rattle.polygon.specs.Angles.{none, each, in_range?, allowed?}
use Rattle.polygon.specs.Polygon.{◌—◌}
use Rattle.polygon.specs.Carried.{angle_of, carried}
use Rattle.polygon.specs.Order.{before?, same?, cross?, none_cross?, diagonal?, distinct?, place, insert, sort, lower_first}
use Rattle.sheet.specs.Sheet.{Reading, refused, held, ask, pairs, angles, count?, more, read_sheet}
use Rattle.sheet.specs.Skipped.{skipped, has_number?, stripped}

-- the bytes of a sheet, and what reading it gives
abbrev pub Case : Type 0
Case = List ℕ × Reading

abbrev pub known : List Case
known =
    -- empty
    ([], refused 1)
    -- bit 0 clear; bit 4 set
    ∷ (0 ∷ 0 ∷ 3 ∷ [], refused 1)
    ∷ (17 ∷ 0 ∷ 3 ∷ [], refused 1)
    -- one byte
    ∷ (1 ∷ [], refused 2)
    -- n = 2 and n = 1,025
    ∷ (1 ∷ 0 ∷ 2 ∷ [], refused 3)
    ∷ (3 ∷ 4 ∷ 1 ∷ [], refused 3)
    -- the triangle: with bit 1, and a byte too many; with a byte too many; as it is to be
    ∷ (3 ∷ 0 ∷ 3 ∷ 0 ∷ [], refused 4)
    ∷ (1 ∷ 0 ∷ 3 ∷ 0 ∷ [], refused 2)
    ∷ (1 ∷ 0 ∷ 3 ∷ [], held (record { n = 3; ds = []; angles = none }))
    -- with bit 2: its four bytes missing, one of them missing, all there, one too many; with bits 1 and 2
    ∷ (5 ∷ 0 ∷ 3 ∷ [], refused 2)
    ∷ (5 ∷ 0 ∷ 3 ∷ 0 ∷ 0 ∷ 9 ∷ [], refused 2)
    ∷ (5 ∷ 0 ∷ 3 ∷ 0 ∷ 0 ∷ 0 ∷ 9 ∷ [], held (record { n = 3; ds = []; angles = none }))
    ∷ (5 ∷ 0 ∷ 3 ∷ 0 ∷ 0 ∷ 0 ∷ 9 ∷ 0 ∷ [], refused 2)
    ∷ (7 ∷ 0 ∷ 3 ∷ 0 ∷ 0 ∷ 0 ∷ 9 ∷ [], refused 4)
    -- n = 4: (0,2) given as (2,0)
    ∷ (3 ∷ 0 ∷ 4 ∷ 0 ∷ 2 ∷ 0 ∷ 0 ∷ [], held (record { n = 4; ds = (0 — 2) ∷ []; angles = none }))
    -- with bit 2, and the bytes 255 behind the pair
    ∷ (7 ∷ 0 ∷ 4 ∷ 0 ∷ 2 ∷ 0 ∷ 0 ∷ 255 ∷ 255 ∷ 255 ∷ 255 ∷ [], held (record { n = 4; ds = (0 — 2) ∷ []; angles = none }))
    -- n = 5: (0,4) (1,3); (0,1) twice; (0,2) (2,0); (0,2) (1,3); (1,3) (0,3)
    ∷ (3 ∷ 0 ∷ 5 ∷ 0 ∷ 0 ∷ 0 ∷ 4 ∷ 0 ∷ 1 ∷ 0 ∷ 3 ∷ [], refused 5)
    ∷ (3 ∷ 0 ∷ 5 ∷ 0 ∷ 0 ∷ 0 ∷ 1 ∷ 0 ∷ 0 ∷ 0 ∷ 1 ∷ [], refused 5)
    ∷ (3 ∷ 0 ∷ 5 ∷ 0 ∷ 0 ∷ 0 ∷ 2 ∷ 0 ∷ 2 ∷ 0 ∷ 0 ∷ [], refused 6)
    ∷ (3 ∷ 0 ∷ 5 ∷ 0 ∷ 0 ∷ 0 ∷ 2 ∷ 0 ∷ 1 ∷ 0 ∷ 3 ∷ [], refused 7)
    ∷ (3 ∷ 0 ∷ 5 ∷ 0 ∷ 1 ∷ 0 ∷ 3 ∷ 0 ∷ 0 ∷ 0 ∷ 3 ∷ [], held (record { n = 5; ds = (0 — 3) ∷ (1 — 3) ∷ []; angles = none }))
    -- n = 6: (0,2) (1,3) (2,0), a pair repeated and two that cross
    ∷ (3 ∷ 0 ∷ 6 ∷ 0 ∷ 0 ∷ 0 ∷ 2 ∷ 0 ∷ 1 ∷ 0 ∷ 3 ∷ 0 ∷ 2 ∷ 0 ∷ 0 ∷ [], refused 6)
    -- bit 3 with n = 3, also behind the four bytes of bit 2; with bytes for an angle; with bit 1
    ∷ (9 ∷ 0 ∷ 3 ∷ [], refused 23)
    ∷ (13 ∷ 0 ∷ 3 ∷ 0 ∷ 0 ∷ 0 ∷ 9 ∷ [], refused 23)
    ∷ (9 ∷ 0 ∷ 3 ∷ 0 ∷ 0 ∷ [], refused 2)
    ∷ (11 ∷ 0 ∷ 3 ∷ [], refused 4)
    -- n = 4 with the angle -1,801, -1,800, 1,800, 1,801; with one byte of it, and with none
    ∷ (11 ∷ 0 ∷ 4 ∷ 0 ∷ 2 ∷ 0 ∷ 0 ∷ 248 ∷ 247 ∷ [], refused 23)
    ∷ (11 ∷ 0 ∷ 4 ∷ 0 ∷ 2 ∷ 0 ∷ 0 ∷ 248 ∷ 248 ∷ [], held (record { n = 4; ds = (0 — 2) ∷ []; angles = each (63736 ∷ []) }))
    ∷ (11 ∷ 0 ∷ 4 ∷ 0 ∷ 2 ∷ 0 ∷ 0 ∷ 7 ∷ 8 ∷ [], held (record { n = 4; ds = (0 — 2) ∷ []; angles = each (1800 ∷ []) }))
    ∷ (11 ∷ 0 ∷ 4 ∷ 0 ∷ 2 ∷ 0 ∷ 0 ∷ 7 ∷ 9 ∷ [], refused 23)
    ∷ (11 ∷ 0 ∷ 4 ∷ 0 ∷ 2 ∷ 0 ∷ 0 ∷ 0 ∷ [], refused 2)
    ∷ (11 ∷ 0 ∷ 4 ∷ 0 ∷ 2 ∷ 0 ∷ 0 ∷ [], refused 2)
    -- n = 5, (1,3) with 10 and (3,0) with -1, behind the four bytes of bit 2: each angle goes with its pair, its sign as it was
    ∷ (15 ∷ 0 ∷ 5 ∷ 0 ∷ 1 ∷ 0 ∷ 3 ∷ 0 ∷ 3 ∷ 0 ∷ 0 ∷ 9 ∷ 9 ∷ 9 ∷ 9 ∷ 0 ∷ 10 ∷ 255 ∷ 255 ∷ [], held (record { n = 5; ds = (0 — 3) ∷ (1 — 3) ∷ []; angles = each (65535 ∷ 10 ∷ []) }))
    -- two that cross, with an angle out of range
    ∷ (11 ∷ 0 ∷ 5 ∷ 0 ∷ 0 ∷ 0 ∷ 2 ∷ 0 ∷ 1 ∷ 0 ∷ 3 ∷ 127 ∷ 255 ∷ 128 ∷ 0 ∷ [], refused 7)
    ∷ []

-- two functions that give the same list agree at each element
same_all : {A B : Type 0} (f g : A → B) (xs : List A) → map f xs ≡ map g xs → All (λ x. f x ≡ g x) xs
same_all f g [] e = all_nil
same_all f g (x ∷ xs) e = all_cons {x = x} (cc) (same_all f g xs (cc))

-- Each known sheet is read so.
pub known_read : All (λ c. read_sheet c.0 ≡ c.1) known
unfolding read_sheet ask pairs angles carried angle_of allowed? in_range? three? recast? count? more Dec.and choose all? diagonal? distinct? sorted? not? same? none_cross? cross? sort insert place before? either? lower_first dec_le ℕ_discrete dec_lt
known_read = same_all (λ (c : Case). read_sheet c.0) (λ (c : Case). c.1) known refl

-- Known sheets, and what each is without bit 2 and its four bytes: a sheet that lacks one of the bytes, or the bit, stays.
abbrev pub skipped_sheets : List (List ℕ × List ℕ)
skipped_sheets =
    (5 ∷ 0 ∷ 3 ∷ 0 ∷ 0 ∷ 0 ∷ 9 ∷ [], 1 ∷ 0 ∷ 3 ∷ [])
    ∷ (7 ∷ 0 ∷ 4 ∷ 0 ∷ 2 ∷ 0 ∷ 0 ∷ 255 ∷ 255 ∷ 255 ∷ 255 ∷ [], 3 ∷ 0 ∷ 4 ∷ 0 ∷ 2 ∷ 0 ∷ 0 ∷ [])
    ∷ (5 ∷ 0 ∷ 3 ∷ 0 ∷ 0 ∷ 9 ∷ [], 5 ∷ 0 ∷ 3 ∷ 0 ∷ 0 ∷ 9 ∷ [])
    ∷ (1 ∷ 0 ∷ 3 ∷ [], 1 ∷ 0 ∷ 3 ∷ [])
    -- with an angle behind
    ∷ (15 ∷ 0 ∷ 4 ∷ 0 ∷ 2 ∷ 0 ∷ 0 ∷ 9 ∷ 9 ∷ 9 ∷ 9 ∷ 7 ∷ 8 ∷ [], 11 ∷ 0 ∷ 4 ∷ 0 ∷ 2 ∷ 0 ∷ 0 ∷ 7 ∷ 8 ∷ [])
    ∷ []

pub known_skipped : All (λ (c : List ℕ × List ℕ). skipped c.0 ≡ c.1) skipped_sheets
unfolding skipped has_number? stripped Dec.and choose dec_le ℕ_discrete
known_skipped = all_cons refl (all_cons refl (all_cons refl (all_cons refl (all_cons refl all_nil))))
