-- Both lengths are known before the first byte is written.
use mathlib.Core.Logic.{inl, inr, ⊎_elim}
use native.Mathlib.Omega.{arith}
use Rattle.cut.proofs.Writing.{one_short, both_told}
use Rattle.cut.proofs.halves.write_both.Goals as goal

pub returns-then-inner-first : goal.returns-then-inner-first
returns-then-inner-first c = one_short _ _ _ _ (inl (omega (arith, c.if-inner-first.true, c.sheet_size-first.ensures)))

pub returns-then-rest-second : goal.returns-then-rest-second
returns-then-rest-second c = one_short _ _ _ _ (inr (omega (arith, c.if-rest-second.true, c.sheet_size-second.ensures)))

pub returns : goal.returns
returns c =
    both_told _ _ _ _ c.sheet_size-first.ensures c.sheet_size-second.ensures
    (⊎_elim (λ k. omega (arith, c.if-inner-first.false, c.sheet_size-first.ensures)) (λ k. omega (arith, c.if-rest-second.false, c.sheet_size-second.ensures)))
    c.put_sheet.ensures c.put_sheet-2.ensures
