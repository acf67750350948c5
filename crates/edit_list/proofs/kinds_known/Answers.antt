-- What the closure says of each edit.
use borrow.Author.Tests.{tests}
use Rattle.std.proofs.Common.{ℕ, List, ◌<◌, ◌≤◌, ◌*◌, length, get_or, rules, arith, MatchBool}
use Rattle.std.specs.List.{AllWithin, HoldsAt}
use Rattle.std.proofs.lemmas.Iterator.{cases_from_all}
use Rattle.lists.proofs.Chains.{all_yes, all_no}
use Rattle.lists.proofs.Places.{below_all, below_at}
use Rattle.edit_list.specs.Script.{count}
use Rattle.edit_list.proofs.Pieces.{piece_byte, pieces, yields_pieces, pieces_all, all_pieces}
use Rattle.edit_list.proofs.kinds_known.Goals.{After-all}
use Rattle.edit_list.proofs.kinds_known.Goals as goal

abbrev Known : List ℕ → Type 0
Known x = get_or x 0 0 ≤ 2

abbrev all_pieces_of : List ℕ → List (List ℕ)
all_pieces_of s = pieces (count s) s

said : (c : After-all) → MatchBool c.all.result (AllWithin Known (all_pieces_of c.args.list.now) 0 (length (all_pieces_of c.args.list.now)))
    ((j : ℕ) × (j < length (all_pieces_of c.args.list.now)) × HoldsAt (λ x. ¬ Known x) (all_pieces_of c.args.list.now) j)
said c = cases_from_all _ _ _ Known (λ x. ¬ Known x) c.all.ensures.ran (yields_pieces c.args.list.now (cc) (cc)) (λ x q k. search (rules, tests)) (λ x q k. search (rules, tests))

pub returns : goal.returns
returns c =
    let s = c.args.list.now in (
      λ e. below_all (count s) (λ i h. rw (piece_byte s i 0 (i * 13) (omega arith) (omega arith)) at (pieces_all {Q = Known} (count s) s (all_yes c.all.result (said c) e) i h)),
      λ e a. all_no {Q = Known} c.all.result (said c) e (all_pieces (count s) s (λ i h. rw (piece_byte s i 0 (i * 13) (omega arith) (omega arith)) (below_at a i h))),
    )
