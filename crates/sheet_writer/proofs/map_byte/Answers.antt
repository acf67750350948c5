-- The low bits, and bit 3 by the test.
use native.Mathlib.Omega.{arith}
use Rattle.sheet.specs.Sheet.{map_byte}
use Rattle.sheet_writer.proofs.map_byte.Goals as goal

pub returns-then-h : goal.returns-then-h
unfolding map_byte
returns-then-h c = rw c.if-h.true (omega (arith, c.low_bits-map.ensures))

pub returns-else-h : goal.returns-else-h
unfolding map_byte
returns-else-h c = rw c.if-h.false (omega (arith, c.low_bits-map.ensures))
