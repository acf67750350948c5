-- What is read of an input whose bytes are known. For the contracts.
use Rattle.std.specs.Prelude.{ℕ, List, Option, None, Some, ◌<◌, ◌≡◌, length, take, drop}
use Rattle.std.specs.Io.KnownBytes.{Consumes, IsAtEnd}

-- one read behind the first `done` bytes of a buffer: the input's next bytes, and none only at its end
abbrev pub ReadBehind : Option ℕ → ℕ → Option (List ℕ) → Option (List ℕ) → List ℕ → Type 0
ReadBehind (Some k) done input rest buf = Consumes input rest (take k (drop done buf)) × (k ≡ 0 → done < length buf → IsAtEnd rest)
ReadBehind None done input rest buf = Unit {0}

-- the buffer begins with the input's next bytes: all that are left, or as many as there is room for
abbrev pub ReadFull : Option ℕ → Option (List ℕ) → Option (List ℕ) → List ℕ → Type 0
ReadFull (Some k) input rest buf = Consumes input rest (take k buf) × (k < length buf → IsAtEnd rest)
ReadFull None input rest buf = Unit {0}
