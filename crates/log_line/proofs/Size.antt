-- How long a line is at most. Rests on the digits of a number: 20 at most, and fewer of a small number.
use mathlib.Core.List.{List, [], ◌∷◌, ◌++◌}
use Prim.Native.Nat.{ℕ, suc, ◌+◌, ◌^◌, ◌<◌, ◌≤◌}
use native.Mathlib.Omega.{arith}
use lib.ListN.{length, length-append}
use Rattle.log_line.specs.declared.Facts.{Facts}
use Rattle.log_line.specs.Line.{decimal, levels_word, umbrellas_word, stems_word, rows_word, columns_word, line, refused_line}
use Rattle.log_line.proofs.Digits.{digits_length, digits_short}

before : (n : ℕ) (xs : List ℕ) → length (decimal n ++ xs) ≤ 20 + length xs
unfolding decimal
before n xs = omega (arith, length-append (decimal n) xs, digits_length 20 n)

pub line_size : (f : Facts) → length (line f) ≤ 256
unfolding line
line_size f =
    let a : List ℕ = columns_word ++ (decimal f.columns ++ (10 ∷ [])) in
    let b : List ℕ = rows_word ++ (decimal f.rows ++ a) in
    let c : List ℕ = stems_word ++ (decimal f.stems ++ b) in
    let d : List ℕ = umbrellas_word ++ (decimal f.umbrellas ++ c) in
    let e : List ℕ = levels_word ++ (decimal f.levels ++ d) in
    omega (arith, before f.corners e, before f.levels d, before f.umbrellas c, before f.stems b, before f.rows a, before f.columns (10 ∷ []))

pub refused_size : (k : ℕ) → length (refused_line k) ≤ 256
unfolding refused_line
refused_size k = omega (arith, before k (10 ∷ []))

-- 5 digits of a number below 100,000, and so on
pub decimal_small : (j n : ℕ) → n < 10 ^ suc j → length (decimal n) ≤ suc j
unfolding decimal
decimal_small j n h = digits_short j 20 n h
