use Prim.Native.Nat.{ℕ}
use native.Mathlib.Omega.{arith}
use Rattle.plan.specs.Counts.{Forked}
use Rattle.plan.proofs.Counting.{none_to_count, counting_begins, into, low, counting_on, counting_ends, counting_ends_low}
use Rattle.plan.proofs.counts.+count.Goals.{After-triangle-w}
use Rattle.plan.proofs.counts.+count.Goals as goal

pub loop-x-init : goal.loop-x-init
loop-x-init t c = counting_begins _ c.requires.1

-- what the triangle adds
forked : (t : ℕ) (c : After-triangle-w t) → Forked c.args.tables.now.tree c.args.tables.now.depths c.loop-x.x c.loop-x.invariant.t c.triangle-w.result
forked t c = let D = c.loop-x.invariant in c.triangle-w.ensures D.t (D.left.known c.loop-x-test.true)

pub loop-x-preserved : goal.loop-x-preserved
loop-x-preserved t c =
    let T = into _ _ _ _ _ (forked t (goal.at.loop-x-preserved t c).After-triangle-w) _ _ c.in-Some.is in
    let z = none_to_count T.left_small c.if-small.false in
    counting_on c.loop-x.invariant T (omega (arith, z 1 0), omega (arith, z 0 1))

pub returns-in_default : goal.returns-in_default
returns-in_default t c = λ x K. counting_ends_low c.loop-x.invariant K (low _ _ _ _ _ (forked t (goal.at.returns-in_default t c).After-triangle-w) c.in_default.is)

pub returns : goal.returns
returns t c = λ x K. counting_ends c.loop-x.invariant K c.loop-x-test.false
