-- Runs of bytes written one behind the other.
use mathlib.Core.Path.{◌≡◌, ap, ◌∙◌}
use mathlib.Core.List.{List, ◌++◌}
use Prim.Native.Nat.{ℕ}
use native.Mathlib.Omega.{arith}
use lib.ListN.{length, length-append}
use lib.Seq.{length-sets}
use Rattle.lists.proofs.Stores.{sets_append}
use Rattle.log_line.specs.Put.{Put}

pub put_then : {xs ys o₀ o₁ o₂ : List ℕ} {a b c : ℕ} → Put xs o₀ a o₁ b → Put ys o₁ b o₂ c → Put (xs ++ ys) o₀ a o₂ c
put_then {xs} {ys} {o₀} {o₁} {o₂} {a} {b} {c} p q = record {
  bytes = q.bytes ∙ rw (p.bytes, p.end, sets_append xs ys o₀ a);
  end = omega (arith, p.end, q.end, length-append xs ys);
}

-- the length stays
pub put_length : {xs o₀ o₁ : List ℕ} {a b : ℕ} → Put xs o₀ a o₁ b → length o₁ ≡ length o₀
put_length {xs} {o₀} {o₁} {a} p = ap length p.bytes ∙ length-sets o₀ a xs
