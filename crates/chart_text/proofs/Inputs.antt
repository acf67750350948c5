-- What is said of an input is settled by its first 20,466 bytes (`long_described` of Theorems.antt).
use mathlib.Core.Path.{◌≡◌}
use mathlib.Core.List.{List}
use Prim.Native.Nat.{ℕ, min}
use lib.ListN.{length, take}
use Rattle.codec.specs.Input.{Begins}
use Rattle.codec.proofs.Input.{begins_settles}
use Rattle.chart_text.specs.Text.{described}
use Rattle.chart_text.proofs.Theorems.{long_described}

pub begins_text : (lent input : List ℕ) (size : ℕ) → length lent ≡ 20466 → Begins lent size input → described (take (min size 20466) lent) ≡ described input
begins_text lent input size h b = begins_settles described 20466 long_described lent input size h b
