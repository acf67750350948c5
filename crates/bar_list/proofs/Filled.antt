-- A list of records once its first i are the chart's bars: it is as long as it was, and with the chart's bar stored at i its first i + 1 are.
use mathlib.Core.Path.{◌≡◌, refl, sym, ◌∙◌, ap}
use Prim.Native.Nat.{ℕ, zero, suc, ◌+◌, ◌<◌, ◌≤◌}
use native.Mathlib.Nat.{add-zero, add-suc, suc-add, not-suc-le-zero, le_of_suc-le-suc}
use native.Mathlib.Numerals.{add-one}
use native.Mathlib.Omega.{arith}
use mathlib.Core.List.{List, [], ◌∷◌, ◌++◌}
use lib.ListN.{length, set, drop, length-append, length-drop}
use Rattle.chart.specs.declared.Bar.{Bar}
use Rattle.bar_list.specs.Bars.{record_at, bars_from, filled}

from_len : (s : List ℕ) (k n : ℕ) → length (bars_from s k n) ≡ n
from_len s k zero = refl
from_len s k (suc n) = ap suc (from_len s (suc k) n)

pub filled_len : (s : List ℕ) (n : ℕ) (ys : List Bar) → n ≤ length ys → length (filled s n ys) ≡ length ys
filled_len s n ys h = length-append (bars_from s 0 n) (drop n ys) ∙ ap (λ (m : ℕ). m + length (drop n ys)) (from_len s 0 n) ∙ ap (λ (m : ℕ). n + m) (length-drop n ys) ∙ omega (arith, h)

more_from : (s : List ℕ) (k i : ℕ) (ys : List Bar) → i < length ys → set (bars_from s k i ++ drop i ys) i (record_at s (k + i)) ≡ bars_from s k (suc i) ++ drop (suc i) ys
more_from s k zero [] h = absurd (not-suc-le-zero h)
more_from s k zero (y ∷ ys) h = ap (λ (j : ℕ). record_at s j ∷ ys) (add-zero k)
more_from s k (suc i) [] h = absurd (not-suc-le-zero h)
more_from s k (suc i) (y ∷ ys) h =
    ap (λ (j : ℕ). record_at s k ∷ set (bars_from s (suc k) i ++ drop i ys) i (record_at s j)) (add-suc k i ∙ sym (suc-add k i))
    ∙ ap (λ (l : List Bar). record_at s k ∷ l) (more_from s (suc k) i ys (le_of_suc-le-suc h))

pub filled_more : (s : List ℕ) (i : ℕ) (ys : List Bar) → i < length ys → set (filled s i ys) i (record_at s i) ≡ filled s (i + 1) ys
filled_more s i ys h = ap (λ (j : ℕ). set (filled s i ys) i (record_at s j)) (omega arith) ∙ more_from s 0 i ys h ∙ ap (λ (j : ℕ). filled s j ys) (sym (add-one i))
