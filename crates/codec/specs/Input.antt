-- What a program has of its input, however long that is: the first `size` of the bytes lent are the whole input, or as many of its first bytes as are lent.
use Rattle.std.specs.Prelude.{◌≡◌, List, ℕ, length, take}

abbrev pub Begins : List ℕ → ℕ → List ℕ → Type 0
Begins lent size input = take size lent ≡ take (length lent) input
