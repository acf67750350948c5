-- The fields behind the pairs, with the angles as the last.
use mathlib.Core.Path.{◌≡◌, ap}
use Prim.Native.Nat.{ℕ, ◌*◌, ◌-◌}
use native.Mathlib.Omega.{arith}
use Rattle.sheet.specs.Sheet.{bit3, field}
use Rattle.sheet.proofs.Fields.{length_is, angles_at_lem}
use Rattle.sheet.proofs.reader.length_for.Goals as goal

pub returns-then-map-ge8 : goal.returns-then-map-ge8
returns-then-map-ge8 c =
    let m = c.args.map in
    let n = c.args.n in
    let bit : bit3 m ≡ 1 = omega (arith, c.if-map-ge8.true, c.requires.0) in
    let block = ap (λ (b : ℕ). field b (2 * (n - 3))) bit in
    omega (arith, length_is m n c.requires.1 c.requires.2 c.requires.4, angles_at_lem m n, c.behind-fields.ensures, bit, block)

pub returns : goal.returns
returns c =
    let m = c.args.map in
    let n = c.args.n in
    let bit : bit3 m ≡ 0 = omega (arith, c.if-map-ge8.false) in
    let block = ap (λ (b : ℕ). field b (2 * (n - 3))) bit in
    omega (arith, length_is m n c.requires.1 c.requires.2 c.requires.4, angles_at_lem m n, c.behind-fields.ensures, bit, block)
