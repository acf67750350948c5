-- The code's answer in one number, in its three cases.
use mathlib.Core.Path.{◌≡◌, refl, ◌∙◌}
use mathlib.Core.List.{List}
use Prim.Native.Nat.{ℕ, ◌+◌, ◌*◌}
use native.Mathlib.Omega.{arith}
use Rattle.std.proofs.Common.{Result, Ok, Err}
use Rattle.codec.specs.declared.refusal.Refusal.{Refusal}
use Rattle.codec.specs.Numbered.{number_of}
use Rattle.edit_list.specs.declared.Left.{Left}
use Rattle.edit_list.specs.declared.Place.TheVariants.{First}
use Rattle.edit_list.specs.Desk.{placed}
use Rattle.edit_list.specs.Result.{place_number, ran_of, packed_run}
use Rattle.edit_list.proofs.Packing.{in_buffer}

pub packed_first : (r : Result Left Refusal) (l : Left) → r ≡ Ok l → l.place ≡ First → (front back outs : List ℕ) → 0 ≡ packed_run (ran_of r front back outs)
unfolding placed
packed_first r l e p front back outs = rw (e, p) refl

pub packed_buffer : (r : Result Left Refusal) (l : Left) (place size : ℕ) → r ≡ Ok l → place ≡ place_number l.place → size ≡ l.size → ¬ (place ≡ 0) → (front back outs : List ℕ)
    → place * 65536 + size * 4294967296 ≡ packed_run (ran_of r front back outs)
packed_buffer r l place size e p s n front back outs = let f = in_buffer (place_number l.place) l.size (λ z. n (p ∙ z)) in rw e (omega arith)

pub packed_no_run : (r : Result Left Refusal) (k : Refusal) → r ≡ Err k → (front back outs : List ℕ) → number_of k ≡ packed_run (ran_of r front back outs)
unfolding placed
packed_no_run r k e front back outs = rw e (omega arith)
