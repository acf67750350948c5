-- How the code writes a line: one run of bytes behind another. For the contracts.
use Rattle.std.specs.Prelude.{◌≡◌, List, ℕ, ◌+◌, length}
use Rattle.std.proofs.lemmas.List.Edits.{sets}

-- the run xs is written at `at`, and r is where it ends
pub record Put (xs out : List ℕ) (at : ℕ) (after : List ℕ) (r : ℕ) : Type 0 where
  pub bytes : after ≡ sets out at xs
  pub end : r ≡ at + length xs
