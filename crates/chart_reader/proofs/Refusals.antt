-- The numbers that a chart is refused by: 14 to 18, and 8.
use mathlib.Core.List.{List, [], ◌∷◌, ◌++◌}
use Prim.Native.Nat.{ℕ}
use native.Mathlib.Omega.{arith}
use Rattle.lists.specs.Lists.{All, numbers}
use Rattle.lists.proofs.Lists.{all_imp, here, there}
use Rattle.lists.proofs.Places.{numbers_in}
use Rattle.codec.specs.Answer.{written}
use Rattle.sheet.specs.Refusals.{RefusedBy, holds}
use Rattle.codec.specs.Refusals.{Proper, Settled}
use Rattle.sheet.proofs.Refusals.{ask_refuses, outcome_refuses}
use Rattle.codec.proofs.Refusals.{settled}
use Rattle.chart_reader.specs.Reader.{chart_tests, read_chart, chart_read}

read_refuses : (s : List ℕ) → RefusedBy chart_tests (read_chart s)
unfolding read_chart
read_refuses s =
    ask_refuses 14 _ here (ask_refuses 15 _ (there here) (ask_refuses 16 _ (there (there here))
    (ask_refuses 17 _ (there (there (there here))) (ask_refuses 18 _ (there (there (there (there here)))) holds))))

tests_proper : All Proper chart_tests
unfolding numbers
tests_proper = all_imp (λ k h. (omega arith, omega arith)) (numbers_in 5 14)

pub chart_settled : (s out : List ℕ) → Settled (chart_tests ++ (8 ∷ [])) (chart_read s) out (written (chart_read s) out)
unfolding chart_read
chart_settled s out = settled _ out tests_proper (outcome_refuses (read_refuses s))
