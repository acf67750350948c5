-- Document 01, "The sheet", and the tests of "Set in order" in their published order.
-- Request (xii): "New sheets are written without bit 2. A sheet that still has it is read and its four bytes are skipped, the result has none".
-- Request (xi): "In the sheet's next edition bit 3 stands for signed angles, .., one for each pair in the listed order; setting in order moves each with its pair."
use Rattle.std.proofs.Math.Logic.Dec.{and as dec_and}
use Rattle.std.specs.Prelude.{List, [], ◌∷◌, ◌++◌, ℕ, zero, suc, ◌+◌, ◌*◌, ◌-◌, ◌/◌, ◌%◌, ◌≤◌, length, get_or}
use Rattle.std.proofs.Math.Decide.{dec_le, dec_lt, ℕ_discrete}
use Rattle.lists.specs.Lists.{all?, choose}
use Rattle.polygon.specs.Angles.{Angle, Angles, none, each, allowed?}
use Rattle.polygon.specs.Polygon.{Edge, Polygon}
use Rattle.polygon.specs.Order.{diagonal?, distinct?, none_cross?, sort, lower_first}
use Rattle.polygon.specs.Carried.{carried}
use Rattle.codec.specs.Numbers.{bytes16, get16, run16}
use Rattle.codec.specs.Answer.{Outcome, refuse, write}

-- a sheet is refused by a number, or a part is held
pub data Reading : Type 0 where
  refused : ℕ → Reading
  held : Polygon → Reading

-- refused by k unless the test is passed
unfoldable pub ask : {P : Type 0} → ℕ → Dec P → Reading → Reading
ask k (yes p) r = r
ask k (no p) r = refused k

-- "Byte 0 is a bit map (bit 0 lowest)": bits 0 to 3 of it, each 0 or 1
abbrev pub bit0 : ℕ → ℕ
bit0 m = m % 2

abbrev pub bit1 : ℕ → ℕ
bit1 m = m / 2 % 2

abbrev pub bit2 : ℕ → ℕ
bit2 m = m / 4 % 2

abbrev pub bit3 : ℕ → ℕ
bit3 m = m / 8 % 2

-- a field is there if its bit stands: as many bytes, or none
abbrev pub field : ℕ → ℕ → ℕ
field zero size = 0
field (suc b) size = size

-- "Bit 0: corner count, two bytes. Bit 1: n-3 pairs of corners, two bytes a corner. Bit 2: part number, four bytes": they count for the length, and nothing reads them.
-- Bit 3: n-3 angles, "two bytes each".
abbrev pub sheet_length : ℕ → ℕ → ℕ
sheet_length m n = 1 + field (bit0 m) 2 + field (bit1 m) (4 * (n - 3)) + field (bit2 m) 4 + field (bit3 m) (2 * (n - 3))

-- the longest sheet: 1,024 corners, with the four bytes of bit 2 and with angles
abbrev pub longest : ℕ
longest = 6133

-- the k pairs from a place on, each with its lower corner first
unfoldable pub pairs : List ℕ → ℕ → ℕ → List Edge
pairs s at zero = []
pairs s at (suc k) = lower_first (get16 s at, get16 s (at + 2)) ∷ pairs s (at + 4) k

-- the k angles from a place on
unfoldable pub angles : List ℕ → ℕ → ℕ → List Angle
angles s at zero = []
angles s at (suc k) = get16 s at ∷ angles s (at + 2) k

-- the angles of a sheet in the listed order, if bit 3 stands: "the fields whose bit stands follow in bit order", behind the pairs and the four bytes of bit 2
abbrev pub angles_if : ℕ → List Angle → Angles
angles_if zero vs = none
angles_if (suc b) vs = each vs

abbrev pub angles_at : ℕ → ℕ → ℕ
angles_at m n = 3 + 4 * (n - 3) + field (bit2 m) 4

abbrev pub listed_angles : List ℕ → ℕ → Angles
listed_angles s n = angles_if (bit3 (get_or s 0 0)) (angles s (angles_at (get_or s 0 0) n) (n - 3))

-- n has 3 to 1,024 corners; bit 1 stands exactly when n > 3
unfoldable pub count? : (n : ℕ) → Dec ((3 ≤ n) × (n ≤ 1024))
count? n = dec_and (dec_le 3 n) (dec_le n 1024)

unfoldable pub more : ℕ → ℕ
more n = choose (dec_lt 3 n) 1 0

-- The tests in order. 1: empty, bit 0 clear, or bit 4 to 7 set. 2: under 3 bytes. 3: n outside 3 to 1,024. 4: bit 1 disagrees with n. 2: length not exact.
-- 5: some pair no diagonal. 6: a pair repeated, either way round. 7: two cross. 23: "an angle outside −1,800 to 1,800, or bit 3 with n = 3; right after 7".
unfoldable pub read_sheet : List ℕ → Reading
read_sheet s =
    let m = get_or s 0 0 in
    let n = get16 s 1 in
    let es = pairs s 3 (n - 3) in
    let xs = listed_angles s n in
    ask 1 (dec_and (dec_le 1 (length s)) (dec_and (ℕ_discrete (bit0 m) 1) (dec_lt m 16)))
    (ask 2 (dec_le 3 (length s))
    (ask 3 (count? n)
    (ask 4 (ℕ_discrete (bit1 m) (more n))
    (ask 2 (ℕ_discrete (length s) (sheet_length m n))
    (ask 5 (all? (diagonal? n) es)
    (ask 6 (distinct? es)
    (ask 7 (none_cross? es)
    (ask 23 (allowed? n xs)
    (held (record { n = n; ds = sort es; angles = carried es xs (sort es) }))))))))))

-- the bytes of a part: "A sheet in normal order has each pair lower corner first, pairs ascending", and no bit 2; then its angles, if it has any, in the order of the pairs
unfoldable pub pair_bytes : List Edge → List ℕ
pair_bytes [] = []
pair_bytes (e ∷ es) = bytes16 e.0 ++ (bytes16 e.1 ++ pair_bytes es)

abbrev pub angle_bytes : Angles → List ℕ
angle_bytes none = []
angle_bytes (each vs) = run16 vs

-- 1 if there are angles
abbrev pub angled : Angles → ℕ
angled none = 0
angled (each vs) = 1

unfoldable pub map_byte : ℕ → Angles → ℕ
map_byte n xs = 1 + more n * 2 + angled xs * 8

unfoldable pub normal_sheet : Polygon → List ℕ
normal_sheet p = map_byte p.n p.angles ∷ (bytes16 p.n ++ (pair_bytes p.ds ++ angle_bytes p.angles))

-- what an operation writes for a part, or the refusal
unfoldable pub outcome : Reading → Outcome
outcome (refused k) = refuse k
outcome (held p) = write (normal_sheet p)

-- Set in order
unfoldable pub ordered : List ℕ → Outcome
ordered s = outcome (read_sheet s)
