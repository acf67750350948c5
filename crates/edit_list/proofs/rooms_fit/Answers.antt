-- What the closure says of each edit.
use borrow.Author.Tests.{tests}
use Rattle.std.proofs.Common.{ℕ, List, ◌<◌, ◌≤◌, ◌+◌, ◌*◌, length, rules, arith, MatchBool}
use Rattle.std.specs.List.{AllWithin, HoldsAt}
use Rattle.std.proofs.lemmas.Iterator.{cases_from_all}
use Rattle.lists.proofs.Chains.{all_yes, all_no}
use Rattle.lists.proofs.Places.{below_all, below_at}
use Rattle.codec.specs.Numbers.{get32}
use Rattle.edit_list.specs.Script.{count}
use Rattle.edit_list.proofs.Pieces.{piece_number, pieces, yields_pieces, pieces_all, all_pieces}
use Rattle.edit_list.proofs.rooms_fit.Goals.{After-all}
use Rattle.edit_list.proofs.rooms_fit.Goals as goal

abbrev Fits : ℕ → List ℕ → Type 0
Fits most x = get32 x 9 ≤ most

said : (c : After-all) → let xs = pieces (count c.args.list.now) c.args.list.now in
    MatchBool c.all.result (AllWithin (Fits c.min-most.result) xs 0 (length xs)) ((j : ℕ) × (j < length xs) × HoldsAt (λ x. ¬ Fits c.min-most.result x) xs j)
said c = cases_from_all _ _ _ (Fits c.min-most.result) (λ x. ¬ Fits c.min-most.result x) c.all.ensures.ran (yields_pieces c.args.list.now (cc) (cc)) (λ x q k. search (rules, tests)) (λ x q k. search (rules, tests))

pub returns : goal.returns
returns c =
    let s = c.args.list.now in (
      λ e. below_all (count s) (λ i h. let f : get32 s (i * 13 + 9) ≤ c.min-most.result = rw (piece_number s i 9 (omega arith)) at (pieces_all {Q = Fits c.min-most.result} (count s) s (all_yes c.all.result (said c) e) i h) in (omega (arith, c.min-most.ensures), omega (arith, c.min-most.ensures))),
      λ e a. all_no {Q = Fits c.min-most.result} c.all.result (said c) e (all_pieces (count s) s (λ i h. rw (piece_number s i 9 (omega arith)) (omega (arith, c.min-most.ensures, below_at a i h)))),
    )
