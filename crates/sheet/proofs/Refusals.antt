-- The numbers that refuse a sheet.
use mathlib.Core.List.{List, [], ◌∷◌, ◌++◌}
use Prim.Native.Nat.{ℕ}
use native.Mathlib.Omega.{arith}
use Rattle.lists.specs.Lists.{Mem, All, all_cons, all_nil, numbers}
use Rattle.lists.proofs.Lists.{here, there, all_append, all_imp}
use Rattle.lists.proofs.Places.{numbers_in}
use Rattle.codec.specs.Answer.{written}
use Rattle.sheet.specs.Sheet.{Reading, ask, read_sheet, outcome, ordered}
use Rattle.codec.specs.Refusals.{Refuses, number, writes, Proper, Settled}
use Rattle.codec.proofs.Refusals.{settled}
use Rattle.sheet.specs.Refusals.{sheet_tests, RefusedBy, by, holds}

-- a test by a number of the list, and then tests by numbers of the list
pub ask_refuses : {ks : List ℕ} {P : Type 0} (k : ℕ) (d : Dec P) {r : Reading} → Mem k ks → RefusedBy ks r → RefusedBy ks (ask k d r)
unfolding ask
ask_refuses k (yes p) m R = R
ask_refuses k (no p) m R = by m

pub outcome_refuses : {ks : List ℕ} {r : Reading} → RefusedBy ks r → Refuses ks (outcome r)
unfolding outcome
outcome_refuses (by m) = number m
outcome_refuses holds = writes

-- a sheet is refused by 1 to 7, or by 23
pub read_refuses : (s : List ℕ) → RefusedBy sheet_tests (read_sheet s)
unfolding read_sheet
read_refuses s =
    ask_refuses 1 _ here (ask_refuses 2 _ (there here)
    (ask_refuses 3 _ (there (there here)) (ask_refuses 4 _ (there (there (there here)))
    (ask_refuses 2 _ (there here) (ask_refuses 5 _ (there (there (there (there here))))
    (ask_refuses 6 _ (there (there (there (there (there here))))) (ask_refuses 7 _ (there (there (there (there (there (there here))))))
    (ask_refuses 23 _ (there (there (there (there (there (there (there here))))))) holds))))))))

pub tests_proper : All Proper sheet_tests
unfolding numbers
tests_proper = all_append {xs = numbers 7 1} (all_imp (λ k h. (omega arith, omega arith)) (numbers_in 7 1)) (all_cons (omega arith, omega arith) all_nil)

pub ordered_settled : (s out : List ℕ) → Settled (sheet_tests ++ (8 ∷ [])) (ordered s) out (written (ordered s) out)
unfolding ordered
ordered_settled s out = settled _ out tests_proper (outcome_refuses (read_refuses s))
