-- What is known of a sheet once the tests up to its exact length are passed, and those up to 7. For the code's contracts, and for refusal 23.
use Rattle.std.specs.Prelude.{◌≡◌, List, ℕ, ◌≤◌, ◌<◌, length, get_or}
use Rattle.lists.specs.Lists.{All}
use Rattle.polygon.specs.Polygon.{NoneCross, Diagonal}
use Rattle.polygon.specs.Order.{Distinct}
use Rattle.codec.specs.Numbers.{get16}
use Rattle.sheet.specs.Sheet.{bit0, bit1, more, sheet_length}
use Rattle.sheet.specs.Listing.{pairs_of}

pub record Framed (s : List ℕ) : Type 0 where
  pub some : 1 ≤ length s
  pub low : bit0 (get_or s 0 0) ≡ 1
  pub small : get_or s 0 0 < 16
  pub three : 3 ≤ length s
  pub least : 3 ≤ get16 s 1
  pub most : get16 s 1 ≤ 1024
  pub agrees : bit1 (get_or s 0 0) ≡ more (get16 s 1)
  pub exact : length s ≡ sheet_length (get_or s 0 0) (get16 s 1)

-- and once those of the pairs are passed too, up to 7
pub record Paired (s : List ℕ) : Type 0 where
  pub framed : Framed s
  pub diagonals : All (Diagonal (get16 s 1)) (pairs_of s (get16 s 1))
  pub distinct : Distinct (pairs_of s (get16 s 1))
  pub none_cross : NoneCross (pairs_of s (get16 s 1))
