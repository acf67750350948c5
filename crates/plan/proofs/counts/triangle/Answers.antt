-- By the laws of Counting.antt, from the values read.
use mathlib.Core.Path.{◌≡◌, ◌∙◌, ap}
use native.Mathlib.Omega.{arith}
use Rattle.umbrella.specs.declared.roles.Role.TheVariants.{Hung}
use Rattle.levels.specs.declared.Six.{Six}
use Rattle.levels.proofs.Knowing.{TabledParts, tabled_parts}
use Rattle.plan.proofs.Counting.{fork_low, fork_both}
use Rattle.plan.proofs.counts.triangle.Goals.{Start, in-Hung, in_default}
use Rattle.plan.proofs.counts.triangle.Goals as goal

-- what the tables hold of the piece
known : (c : Start) → let p = c.args.x.piece in TabledParts c.args.tables.now.tree c.args.tables.now.depths p.e p.u p.v c.requires.known.0
known c = tabled_parts c.requires.known.1 c.requires.apart

pub returns-then-matches : goal.returns-then-matches
returns-then-matches c =
    let hung : c.args.x.role ≡ Hung = elim c.match-matches.branch [ in-Hung w ↦ w.in-Hung.is | in_default w ↦ cc ] in
    λ t K. fork_low c.args.x c.values-own.ensures (tabled_parts K c.requires.apart) c.if-own-eq1.true hung c.one_level.ensures

pub values-r-requires : goal.values-r-requires
values-r-requires c = rw c.open-t.ensures (omega (arith, (known (goal.at.values-r-requires c).Start).parts))

pub overflow_sub-own : goal.overflow_sub-own
overflow_sub-own c =
    let K = known (goal.at.overflow_sub-own c).Start in
    omega (arith, K.tall, ap (λ (s : Six). s.ud) (c.values-own.ensures ∙ K.six_t))

pub larger_last-requires : goal.larger_last-requires
larger_last-requires c =
    let k = (known (goal.at.larger_last-requires c).Start).parts in
    rw c.open-t.ensures (omega (arith, k), omega (arith, k))

pub returns : goal.returns
returns c =
    λ t K.
    fork_both c.args.x c.values-own.ensures (tabled_parts K c.requires.apart) c.open-t.ensures c.values-l.ensures c.values-r.ensures
    c.step_at-s.ensures c.levels_under.ensures c.larger_last.ensures
