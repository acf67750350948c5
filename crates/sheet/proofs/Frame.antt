-- What the reading of a sheet's head has found out, put together.
use mathlib.Core.Path.{◌≡◌, ap, sym, ◌∙◌}
use mathlib.Core.Bool.{Bool, true, false}
use mathlib.Core.List.{List}
use Prim.Native.Nat.{ℕ, ◌≤◌, ◌<◌}
use native.Mathlib.Omega.{arith}
use borrow.Author.Tests.{leb-true, leb-false}
use lib.Dec.{leb}
use lib.ListN.{length, get_or}
use Rattle.codec.specs.Numbers.{get16}
use Rattle.sheet.specs.Sheet.{bit0, bit1, bit3, more, read_sheet, refused, sheet_length}
use Rattle.sheet.specs.Held.{bit, HeadOf}
use Rattle.sheet.proofs.Asks.{refused_4, refused_2b}

-- the tests that are passed when the count n has been read and is in range
pub record Tested (s : List ℕ) (n : ℕ) : Type 0 where
  pub some_bytes : 1 ≤ length s
  pub low : bit0 (get_or s 0 0) ≡ 1
  pub small : get_or s 0 0 < 16
  pub three : 3 ≤ length s
  pub count : n ≡ get16 s 1
  pub least : 3 ≤ n
  pub most : n ≤ 1024

module _ {s : List ℕ} {n : ℕ} (T : Tested s n) where
  pub disagrees : (bit1 (get_or s 0 0) ≡ more n → ⊥) → read_sheet s ≡ refused 4
  disagrees f = refused_4 s T.some_bytes T.low T.small T.three (omega arith) (omega arith) (λ e. f (e ∙ ap more (sym T.count)))

  module _ (agrees : bit1 (get_or s 0 0) ≡ more n) (size : ℕ) (fields : size ≡ sheet_length (get_or s 0 0) n) where
    pub inexact : (length s ≡ size → ⊥) → read_sheet s ≡ refused 2
    inexact f = refused_2b s T.some_bytes T.low T.small T.three (omega arith) (omega arith) (agrees ∙ ap more T.count) (λ e. f (e ∙ (ap (sheet_length (get_or s 0 0)) (sym T.count) ∙ sym fields)))

    pub framed : length s ≡ size → (angled : Bool) → bit angled ≡ bit3 (get_or s 0 0) → HeadOf s (record { n = n; angled = angled })
    framed exact angled a = record {
      frame = record {
        some = T.some_bytes;
        low = T.low;
        small = T.small;
        three = T.three;
        least = omega arith;
        most = omega arith;
        agrees = agrees ∙ ap more T.count;
        exact = exact ∙ (fields ∙ ap (sheet_length (get_or s 0 0)) T.count);
      };
      corners = T.count;
      with_angles = a;
    }

-- bit 3 stands in a map byte from 8 on, and in no lower one
pub bit3_is : (m : ℕ) (b : Bool) → m < 16 → b ≡ leb 8 m → bit b ≡ bit3 m
bit3_is m true h e = let l = leb-true 8 m (sym e) in omega arith
bit3_is m false h e = let l = leb-false 8 m (sym e) in omega arith
