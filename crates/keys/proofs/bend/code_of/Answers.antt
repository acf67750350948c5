-- In range or not, by the test on the angle plus 1,800.
use mathlib.Core.Logic.{inl, inr}
use mathlib.Core.Path.{sym}
use native.Mathlib.Decide.{dec_le}
use native.Mathlib.Omega.{arith}
use Prim.Native.Nat.{ℕ, ◌+◌, ◌%◌, ◌<◌, ◌≤◌}
use Rattle.polygon.specs.Angles.{InRange}
use Rattle.keys.proofs.Beside.{code_in, code_out}
use Rattle.keys.proofs.bend.code_of.Goals as goal

outside : (a : ℕ) → 3600 < (a + 1800) % 65536 → ¬ InRange a
outside a h (inl k) = omega arith
outside a h (inr k) = omega arith

within : (a : ℕ) → a < 65536 → (a + 1800) % 65536 ≤ 3600 → InRange a
within a l h = go (dec_le a 1800)
  where
    go : Dec (a ≤ 1800) → InRange a
    go (yes k) = inl k
    go (no k) = inr (omega arith)

pub returns-then-x-gt3600 : goal.returns-then-x-gt3600
returns-then-x-gt3600 c = (sym (code_out _ (outside _ c.if-x-gt3600.true)), omega arith)

pub returns : goal.returns
returns c = (sym (code_in _ (within _ c.requires c.if-x-gt3600.false)), omega arith)
