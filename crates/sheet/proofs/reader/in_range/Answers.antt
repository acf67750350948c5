-- By the laws of the chain.
use Rattle.std.proofs.Common.{rules, tests}
use Rattle.std.proofs.lemmas.Iterator.{cases_from_all, YieldsList-from_slice}
use Rattle.lists.proofs.Chains.{all_yes, all_no}
use Rattle.sheet.specs.Held.{CodeFits}
use Rattle.sheet.proofs.reader.in_range.Goals as goal

pub returns : goal.returns
returns c =
    let cases = cases_from_all _ _ _ CodeFits (λ b. ¬ CodeFits b) c.all.ensures.ran (YieldsList-from_slice c.args.bends.now cc) (λ x q k. search (rules, tests)) (λ x q k. search (rules, tests)) in
    record { yes = all_yes _ cases; no = all_no _ cases }
