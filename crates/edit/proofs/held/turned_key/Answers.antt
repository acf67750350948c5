-- The two corners that are marked in both tables, by the laws of Turning.antt.
use mathlib.Core.Path.{◌≡◌}
use Prim.Native.Nat.{ℕ, ◌+◌}
use mathlib.Core.List.{[], ◌∷◌}
use Rattle.std.proofs.Common.{Some, replicate, get_or, arith}
use Rattle.std.proofs.lemmas.List.{get_or-replicate, get_or_past, length-replicate}
use Rattle.polygon.specs.Polygon.{◌—◌}
use Rattle.keys.specs.Keys.{edges_of}
use Rattle.edit.specs.Rules.{common}
use Rattle.edit.specs.Tables.{Common}
use Rattle.edit.proofs.Turning.{first_found, second_found}
use Rattle.edit.proofs.held.turned_key.Goals.{After-first_common, After-first_common-2}
use Rattle.edit.proofs.held.turned_key.Goals as goal

unmarked : (n x : ℕ) → get_or (replicate {A = ℕ} n 0) x 0 ≡ 0
unmarked n x = grind (arith, get_or-replicate, get_or_past, length-replicate)

first : (c : After-first_common) → (x y : ℕ) → common c.args.n (edges_of c.args.keys.now) (c.args.a — c.args.b) ≡ x ∷ (y ∷ []) → c.first_common.result ≡ Some x
first c x y e = first_found c.args.n c.args.a c.args.b (edges_of c.args.keys.now) c.mark.new.near c.mark-2.new.near c.mark.ensures c.mark-2.ensures x y e _ c.first_common.ensures

second : (c : After-first_common-2) → (x y : ℕ) → common c.args.n (edges_of c.args.keys.now) (c.args.a — c.args.b) ≡ x ∷ (y ∷ []) → c.first_common.result ≡ Some x → c.first_common-2.result ≡ Some y
second c x y e s =
    let same : c.in_ok-x.x ≡ x = cc (s, c.in_ok-x.was) in
    let C : Common c.mark.new.near c.mark-2.new.near (x + 1) c.args.n c.first_common-2.result = rw same at c.first_common-2.ensures in
    second_found c.args.n c.args.a c.args.b (edges_of c.args.keys.now) c.mark.new.near c.mark-2.new.near c.mark.ensures c.mark-2.ensures x y e _ C

pub mark-requires-clause-fresh : goal.mark-requires-clause-fresh
mark-requires-clause-fresh c = λ x. unmarked 1024 x

pub mark-requires-2-clause-fresh : goal.mark-requires-2-clause-fresh
mark-requires-2-clause-fresh c = λ x. unmarked 1024 x

pub returns-in_err-x-clause-pair : goal.returns-in_err-x-clause-pair
returns-in_err-x-clause-pair c = λ x y e. cc (first (goal.at.returns-in_err-x-clause-pair c).After-first_common x y e, c.in_err-x.was)

pub returns-in_err-y-clause-pair : goal.returns-in_err-y-clause-pair
returns-in_err-y-clause-pair c = λ x y e.
    let s = first (goal.at.returns-in_err-y-clause-pair c).After-first_common x y e in
    cc (second (goal.at.returns-in_err-y-clause-pair c).After-first_common-2 x y e s, c.in_err-y.was)

pub returns-clause-pair : goal.returns-clause-pair
returns-clause-pair c = λ x y e.
    let s = first (goal.at.returns-clause-pair c).After-first_common x y e in
    cc (s, c.in_ok-x.was, second (goal.at.returns-clause-pair c).After-first_common-2 x y e s, c.in_ok-y.was, c.key.ensures)
