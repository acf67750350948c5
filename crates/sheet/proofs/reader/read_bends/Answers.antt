use Prim.Native.Nat.{◌-◌}
use native.Mathlib.Omega.{arith}
use lib.ListN.{length}
use Rattle.lists.proofs.Lists.{all_mem}
use Rattle.sheet.proofs.Pairs.{listed_none, listed_next, pairs_at}
use Rattle.sheet.proofs.reader.read_bends.Goals as goal

pub loop-i-init : goal.loop-i-init
loop-i-init c = (omega arith, listed_none _ _ _ _ _)

pub returns-in_default-clause-no : goal.returns-in_default-clause-no
returns-in_default-clause-no c h a = c.in_default.ensures (all_mem a (pairs_at c.args.sheet.now 3 (c.args.n - 3) c.loop-i.i (omega arith)))

pub loop-i-preserved : goal.loop-i-preserved
loop-i-preserved c =
    let d = c.in-Some.ensures in (
      omega arith,
      listed_next c.args.sheet.now c.args.n c.args.angled _ (length c.args.bends.now) c.loop-i.bends c.loop-i.i _ _ _ (omega arith) (omega arith) (omega arith)
          c.loop-i.invariant.1 d.0 d.1 c.angle_code.ensures.1 c.angle_code.ensures.0 c.bend.ensures,
    )
