-- Document 01, "The sheet", and request (xi), as one statement about a sheet and a part. It names no order of tests; the laws in proofs/Accepts.antt hold `read_sheet` against it.
use Rattle.std.specs.Prelude.{◌≡◌, ◌↔◌, List, ℕ, ◌-◌, ◌<◌, length, get_or}
use Rattle.lists.specs.Lists.{Sub}
use Rattle.polygon.specs.Polygon.{Edge, Polygon}
use Rattle.polygon.specs.Order.{Distinct}
use Rattle.polygon.specs.Carried.{carried}
use Rattle.codec.specs.Numbers.{get16}
use Rattle.sheet.specs.Sheet.{bit0, bit1, sheet_length, pairs, listed_angles}

-- the n - 3 pairs of a sheet for n corners, each with its lower corner first
abbrev pub pairs_of : List ℕ → ℕ → List Edge
pairs_of s n = pairs s 3 (n - 3)

-- the sheet lists the part
pub record Lists (s : List ℕ) (p : Polygon) : Type 0 where
  -- "Byte 0 is a bit map": of four fields, of which "bit 0 always stands". Bit 2 may stand: request (xii), "its four bytes are skipped".
  pub four_fields : get_or s 0 0 < 16
  pub count_stands : bit0 (get_or s 0 0) ≡ 1
  -- "Bit 0: corner count, two bytes."
  pub corners : get16 s 1 ≡ p.n
  -- "bit 1 stands exactly when n > 3"
  pub pairs_stand : (bit1 (get_or s 0 0) ≡ 1) ↔ (3 < p.n)
  -- "the fields whose bit stands follow in bit order", and nothing else follows
  pub exact : length s ≡ sheet_length (get_or s 0 0) p.n
  -- "Pairs come in any order, either corner first": each diagonal of the part once, and no other pair
  pub once : Distinct (pairs_of s p.n)
  pub diagonals_listed : Sub p.ds (pairs_of s p.n)
  pub listed_diagonals : Sub (pairs_of s p.n) p.ds
  -- "bit 3 stands for signed angles, .., one for each pair in the listed order": it stands exactly if the part has angles, and each pair is listed with its own
  pub angles_listed : listed_angles s p.n ≡ carried p.ds p.angles (pairs_of s p.n)
