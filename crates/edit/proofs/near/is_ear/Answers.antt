-- What the closure says of each key.
use borrow.Author.Tests.{tests}
use Rattle.std.proofs.Common.{ℕ, ◌<◌, length, rules, MatchBool}
use Rattle.std.specs.List.{AllWithin, HoldsAt}
use Rattle.std.proofs.lemmas.Iterator.{cases_from_all, YieldsList-from_slice}
use Rattle.lists.proofs.Lists.{all_map}
use Rattle.lists.proofs.Chains.{all_yes, all_no}
use Rattle.keys.specs.Keys.{edge_of}
use Rattle.edit.specs.Rules.{Away}
use Rattle.edit.proofs.Marking.{keys_away}
use Rattle.edit.proofs.near.is_ear.Goals.{After-all}
use Rattle.edit.proofs.near.is_ear.Goals as goal

abbrev OfKey : ℕ → ℕ → Type 0
OfKey k x = Away k (edge_of x)

said : (c : After-all) → MatchBool c.all.result (AllWithin (OfKey c.args.k) c.args.keys.now 0 (length c.args.keys.now)) ((j : ℕ) × (j < length c.args.keys.now) × HoldsAt (λ x. ¬ OfKey c.args.k x) c.args.keys.now j)
said c =
    cases_from_all _ _ _ (OfKey c.args.k) (λ x. ¬ OfKey c.args.k x) c.all.ensures.ran (YieldsList-from_slice c.args.keys.now cc) (λ x q k. search (rules, tests)) (λ x q k. search (rules, tests))

pub returns-clause-yes : goal.returns-clause-yes
returns-clause-yes c = λ e. all_map edge_of (all_yes c.all.result (said c) e)

pub returns-clause-no : goal.returns-clause-no
returns-clause-no c = λ e a. all_no {Q = OfKey c.args.k} c.all.result (said c) e (keys_away _ a)
