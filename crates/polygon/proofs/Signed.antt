-- The range of an angle in signed numbers: of its two bytes in two's complement it is what request (xi) says, −1,800 to 1,800.
use mathlib.Core.Logic.{◌↔◌, inl, inr}
use Prim.Native.Nat.{◌-◌, ◌<◌, ◌≤◌}
use native.Mathlib.Decide.{dec_lt}
use native.Mathlib.Omega.{arith}
use lib.IntN.{ℤ, pos, negsuc}
use Rattle.lists.specs.Lists.{choose}
use Rattle.lists.proofs.Lists.{choose_no, choose_yes}
use Rattle.polygon.specs.Angles.{Angle, InRange}

-- the number that two bytes are in two's complement: `negsuc x` is −(x + 1), so that 65,535 is −1
abbrev pub signed : Angle → ℤ
signed a = choose (dec_lt a 32768) (pos a) (negsuc (65535 - a))

-- from −1,800 to 1,800
abbrev pub Within : ℤ → Type 0
Within (pos x) = x ≤ 1800
Within (negsuc x) = x ≤ 1799

pub in_range_reads : (a : Angle) → a < 65536 → InRange a ↔ Within (signed a)
in_range_reads a h = go (dec_lt a 32768)
  where
    go : Dec (a < 32768) → InRange a ↔ Within (signed a)
    go (yes k) = rw (choose_yes (dec_lt a 32768) {x = pos a} (negsuc (65535 - a)) k) (λ r. elim r [ inl l ↦ l | inr l ↦ absurd (omega (arith, l)) ], λ l. inl l)
    go (no k) = rw (choose_no (dec_lt a 32768) (pos a) {y = negsuc (65535 - a)} k) (λ r. elim r [ inl l ↦ absurd (omega (arith, l)) | inr l ↦ omega (arith, l) ], λ l. inr (omega arith, h))
