-- No sheet is longer than `longest`, 6,133 bytes, so an input that is longer is refused as its first 6,134 bytes are.
use mathlib.Core.Path.{◌≡◌, ap}
use mathlib.Core.List.{List}
use Prim.Native.Nat.{ℕ, suc, ◌*◌, ◌-◌, ◌≤◌, ◌<◌}
use native.Mathlib.Omega.{arith}
use lib.ListN.{length, take, get_or}
use lib.Seq.{get_or-take, length-take-le}
use Rattle.codec.specs.Numbers.{get16}
use Rattle.codec.proofs.Numbers.{get16_same}
use Rattle.sheet.specs.Sheet.{bit0, bit1, bit3, more, longest, read_sheet}
use Rattle.sheet.proofs.Alike.{Exact, read_alike}
use Rattle.sheet.proofs.Fields.{length_is, angles_at_lem, field_most}

-- an input that is so long is not exactly as long as its fields
too_long : (s : List ℕ) → (suc longest) ≤ length s → bit0 (get_or s 0 0) ≡ 1 → 3 ≤ get16 s 1 → get16 s 1 ≤ 1024 → bit1 (get_or s 0 0) ≡ more (get16 s 1) → ¬ Exact s
too_long s h low least most agrees e =
    let m = get_or s 0 0 in
    let n = get16 s 1 in
    omega (arith, length_is m n low least agrees, angles_at_lem m n, field_most (bit3 m) (2 * (n - 3)))

pub long_input : (s : List ℕ) → (suc longest) ≤ length s → read_sheet (take (suc longest) s) ≡ read_sheet s
long_input s h =
    let t : List ℕ = take (suc longest) s in
    let long : (suc longest) ≤ length t = omega (arith, length-take-le (suc longest) s h) in
    let at : (i : ℕ) → i < (suc longest) → get_or t i 0 ≡ get_or s i 0 = λ i l. get_or-take (suc longest) s i 0 l in
    let map : get_or t 0 0 ≡ get_or s 0 0 = at 0 (omega arith) in
    let count : get16 t 1 ≡ get16 s 1 = get16_same t s 1 (at 1 (omega arith)) (at 2 (omega arith)) in
    read_alike (record {
      long = omega arith;
      long_too = omega arith;
      low = ap bit0 map;
      few = (λ l. omega (arith, map), λ l. omega (arith, map));
      pairs_bit = ap bit1 map;
      count = count;
      rest = λ low least most agrees.
          let no = too_long t long low least most agrees in
          let no_too = too_long s h (rw map at low) (rw count at least) (rw count at most) (rw (map, count) at agrees) in
          ((λ e. absurd (no e), λ e. absurd (no_too e)), λ e. absurd (no e));
    })
