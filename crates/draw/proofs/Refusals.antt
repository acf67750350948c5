-- The numbers that Draw is refused by: those of the sheet's tests, and 8; for a label 19 before it; and what can still stop it once the sheet is read.
use mathlib.Core.Path.{◌≡◌, ◌∙◌, subst}
use mathlib.Core.Logic.{◌⊎◌}
use mathlib.Core.List.{List, [], ◌∷◌, ◌++◌}
use Prim.Native.Nat.{ℕ, ◌<◌}
use native.Mathlib.Omega.{arith}
use lib.ListN.{length}
use Rattle.lists.specs.Lists.{all_nil, all_cons, choose}
use Rattle.lists.proofs.Lists.{here, mem_left, mem_right, all_append}
use Rattle.codec.specs.Answer.{OnlyShort, refuse, write, written}
use Rattle.codec.proofs.TwoOutputs.{only_short_both}
use Rattle.sheet.specs.Sheet.{Reading}
use Rattle.sheet.specs.Refusals.{sheet_tests, RefusedBy, by, holds}
use Rattle.codec.specs.Refusals.{Refuses, number, writes, Settled}
use Rattle.sheet.proofs.Refusals.{read_refuses, tests_proper}
use Rattle.codec.proofs.Refusals.{settled}
use Rattle.chart.specs.Chart.{Bar, Chart, bars_of, chart_of}
use Rattle.chart.specs.Bytes.{bytes_of}
use Rattle.chart.proofs.Sizes.{bars_count}
use Rattle.draw.specs.Answer.{charted, drawn, into_both}
use Rattle.draw.specs.Label.{label, Keeps, keeps?, charted_within, labelled}

charted_refuses : {ks : List ℕ} {r : Reading} → RefusedBy ks r → Refuses ks (charted r)
unfolding charted
charted_refuses (by m) = number m
charted_refuses holds = writes

pub drawn_settled : (s out : List ℕ) → Settled (sheet_tests ++ (8 ∷ [])) (drawn s) out (written (drawn s) out)
unfolding drawn
drawn_settled s out = settled _ out tests_proper (charted_refuses (read_refuses s))

-- for a label
labelled_refuses : {r : Reading} → RefusedBy sheet_tests r → Refuses (sheet_tests ++ (19 ∷ [])) (charted_within label r)
unfolding charted_within choose
labelled_refuses (by m) = number (mem_left (19 ∷ []) m)
labelled_refuses (holds {p}) = go (keeps? label (chart_of p).rows)
  where
    go : (d : Dec (Keeps label (chart_of p).rows)) → Refuses (sheet_tests ++ (19 ∷ [])) (choose d (write (bytes_of (chart_of p))) (refuse 19))
    go (yes h) = writes
    go (no h) = number (mem_right sheet_tests here)

pub labelled_settled : (s out : List ℕ) → Settled (sheet_tests ++ (19 ∷ 8 ∷ [])) (labelled s) out (written (labelled s) out)
unfolding labelled
labelled_settled s out = settled _ out (all_append tests_proper (all_cons (omega arith, omega arith) all_nil)) (labelled_refuses (read_refuses s))

-- with the bar list: only an output or a list that is too short can stop it
pub only_short_bars : (c : Chart) (n : ℕ) → c.n ≡ n → (out : List ℕ) (bars : List Bar) → OnlyShort ((length out < length (bytes_of c)) ⊎ (length bars < n)) (into_both c out bars).answer.number
only_short_bars c n h out bars = subst (λ m. OnlyShort ((length out < length (bytes_of c)) ⊎ (length bars < m)) (into_both c out bars).answer.number) (bars_count c ∙ h) (only_short_both (bytes_of c) out (bars_of c) bars)
