-- The digits of n / 10 first, then the last one; the measure is n.
use mathlib.Core.Path.{ap}
use mathlib.Core.List.{[], ◌∷◌}
use Prim.Native.Nat.{◌+◌, ◌/◌, ◌%◌}
use native.Mathlib.Omega.{arith}
use lib.ListN.{length}
use Rattle.lists.proofs.Stores.{sets_append}
use Rattle.log_line.specs.Line.{digits}
use Rattle.log_line.proofs.Digits.{digits_one, digits_step, length_step}
use Rattle.log_line.proofs.+put_digits.Goals as goal

pub bounds-out-at : goal.bounds-out-at
bounds-out-at t c = omega (arith, ap length (digits_one 19 c.args.n c.if-n-lt10.true), c.requires)

pub returns-then-n-lt10 : goal.returns-then-n-lt10
returns-then-n-lt10 t c = record { bytes = rw (digits_one 19 c.args.n c.if-n-lt10.true); end = omega (arith, ap length (digits_one 19 c.args.n c.if-n-lt10.true)) }

pub put_digits-next-requires : goal.put_digits-next-requires
put_digits-next-requires t c = (omega (arith, c.decreases), omega (arith, length_step c.args.n c.if-n-lt10.false (omega arith), c.requires))

pub bounds-out-next : goal.bounds-out-next
bounds-out-next t c = omega (arith, length_step c.args.n c.if-n-lt10.false (omega arith), c.requires, c.put_digits-next.ensures.end, c.put_digits-next.auto.out)

pub overflow_add-result-2 : goal.overflow_add-result-2
overflow_add-result-2 t c = omega (arith, length_step c.args.n c.if-n-lt10.false (omega arith), c.requires, c.put_digits-next.ensures.end, c.put_digits-next.auto.out)

pub returns : goal.returns
returns t c =
    let n = c.args.n in
    let d = c.put_digits-next.ensures in
    record {
      bytes = rw (d.bytes, d.end, digits_step n c.if-n-lt10.false (omega arith), sets_append (digits 20 (n / 10)) ((48 + n % 10) ∷ []) c.args.out.now c.args.at);
      end = omega (arith, length_step n c.if-n-lt10.false (omega arith), d.end);
    }
