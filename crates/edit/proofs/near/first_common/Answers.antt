-- By the law of `find` over a range.
use Rattle.std.proofs.Common.{rules}
use borrow.Author.Tests.{tests}
use Rattle.std.proofs.lemmas.Iterator.{first_from_Range}
use Rattle.edit.specs.Tables.{InBoth}
use Rattle.edit.proofs.near.first_common.Goals as goal

pub returns : goal.returns
returns c =
    first_from_Range _ _ _ c.find.result (InBoth c.args.p.now c.args.q.now) (λ x. ¬ InBoth c.args.p.now c.args.q.now x) c.find.ensures.ran (λ x q k. search (rules, tests)) (λ x q k. search (rules, tests))
