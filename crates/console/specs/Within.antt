-- What was read behind the first `done` bytes of a buffer lies within the buffer. For the contracts.
use Rattle.std.specs.Prelude.{ℕ, Option, None, Some, ◌+◌, ◌≤◌}

abbrev pub Within : Option ℕ → ℕ → ℕ → Type 0
Within (Some k) done room = done + k ≤ room
Within None done room = Unit {0}
