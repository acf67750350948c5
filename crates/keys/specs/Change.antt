-- A list of bends without that of a key.
use Rattle.std.specs.Prelude.{List, ℕ}
use Rattle.std.proofs.Math.Decide.{ℕ_discrete}
use Rattle.lists.specs.Lists.{keep, not?}
use Rattle.keys.specs.Keys.{key_in}

unfoldable pub remove_key : ℕ → List ℕ → List ℕ
remove_key k bs = keep (λ b. not? (ℕ_discrete (key_in b) k)) bs
