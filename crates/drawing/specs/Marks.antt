-- The rows that carry a bar, as the code marks them.
use Rattle.std.specs.Prelude.{◌≡◌, List, ℕ, ◌<◌, length, get_or}
use Rattle.std.proofs.Math.Decide.{ℕ_discrete}
use Rattle.lists.specs.Lists.{times, mem?}

-- the table has 1 for each row that is one of rs, and 0 for each other
abbrev pub Marked : List ℕ → List ℕ → Type 0
Marked rs marks = (r : ℕ) → r < length marks → get_or marks r 0 ≡ times (mem? ℕ_discrete r rs)
