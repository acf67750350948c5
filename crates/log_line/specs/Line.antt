-- The line that the program prints (document 01, "Known parts"), in bytes:
-- `part - corners 3 levels 1 umbrellas 1 stems 0 rows 3 columns 2`, the numbers "as named, in decimal"; request (xii): "the log prints `-` always"; by request (v) the rows of this one are 2. "A refusal prints `refused` and its number, as `refused 3`".
use Rattle.std.specs.Prelude.{List, [], ◌∷◌, ◌++◌, ℕ, zero, suc, ◌+◌, ◌/◌, ◌%◌}
use Rattle.std.proofs.Math.Decide.{dec_lt}
use Rattle.lists.specs.Lists.{choose}
use Rattle.log_line.specs.declared.Facts.{Facts}

-- a number in decimal; the first number bounds the digits
unfoldable pub digits : ℕ → ℕ → List ℕ
digits zero n = []
digits (suc k) n =
    let more = digits k (n / 10) ++ ((48 + n % 10) ∷ []) in
    choose (dec_lt n 10) ((48 + n) ∷ []) more

-- up to twenty digits: any number of 64 bits
unfoldable pub decimal : ℕ → List ℕ
decimal n = digits 20 n

-- the words, with the blanks around them
abbrev pub part_word : List ℕ
part_word = 112 ∷ 97 ∷ 114 ∷ 116 ∷ 32 ∷ 45 ∷ []

abbrev pub corners_word : List ℕ
corners_word = 32 ∷ 99 ∷ 111 ∷ 114 ∷ 110 ∷ 101 ∷ 114 ∷ 115 ∷ 32 ∷ []

abbrev pub levels_word : List ℕ
levels_word = 32 ∷ 108 ∷ 101 ∷ 118 ∷ 101 ∷ 108 ∷ 115 ∷ 32 ∷ []

abbrev pub umbrellas_word : List ℕ
umbrellas_word = 32 ∷ 117 ∷ 109 ∷ 98 ∷ 114 ∷ 101 ∷ 108 ∷ 108 ∷ 97 ∷ 115 ∷ 32 ∷ []

abbrev pub stems_word : List ℕ
stems_word = 32 ∷ 115 ∷ 116 ∷ 101 ∷ 109 ∷ 115 ∷ 32 ∷ []

abbrev pub rows_word : List ℕ
rows_word = 32 ∷ 114 ∷ 111 ∷ 119 ∷ 115 ∷ 32 ∷ []

abbrev pub columns_word : List ℕ
columns_word = 32 ∷ 99 ∷ 111 ∷ 108 ∷ 117 ∷ 109 ∷ 110 ∷ 115 ∷ 32 ∷ []

abbrev pub refused_word : List ℕ
refused_word = 114 ∷ 101 ∷ 102 ∷ 117 ∷ 115 ∷ 101 ∷ 100 ∷ 32 ∷ []

-- the line of what it tells of a part (`Facts` of src/lib.rt), with its line end
unfoldable pub line : Facts → List ℕ
line f =
    part_word ++ (corners_word ++ (decimal f.corners
    ++ (levels_word ++ (decimal f.levels
    ++ (umbrellas_word ++ (decimal f.umbrellas
    ++ (stems_word ++ (decimal f.stems
    ++ (rows_word ++ (decimal f.rows
    ++ (columns_word ++ (decimal f.columns
    ++ (10 ∷ [])))))))))))))

unfoldable pub refused_line : ℕ → List ℕ
refused_line k = refused_word ++ (decimal k ++ (10 ∷ []))
