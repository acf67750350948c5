-- No edit writes more than the longest sheet has.
use mathlib.Core.Path.{◌≡◌, refl}
use mathlib.Core.List.{List}
use Prim.Native.Nat.{ℕ, ◌≤◌}
use Rattle.polygon.specs.Polygon.{Polygon}
use Rattle.codec.specs.Answer.{written}
use Rattle.sheet.specs.Sheet.{Reading, refused, held, longest, read_sheet, outcome}
use Rattle.sheet.proofs.Size.{ValidPart, outcome_size}
use Rattle.sheet.proofs.Valid.{read_valid}
use Rattle.edit.specs.Rules.{Edit, rule}
use Rattle.edit.specs.Calls.{on_held, edited}
use Rattle.edit.proofs.Keeps.{rule_valid}

pub edited_size : (e : Edit) (s out : List ℕ) → (written (edited e s) out).size ≤ longest
unfolding edited on_held
edited_size e s out = go (read_sheet s) refl
  where
    ruled : (p : Polygon) → read_sheet s ≡ held p → (r : Reading) → rule e p ≡ r → ValidPart r
    ruled p h (refused k) g = tt
    ruled p h (held q) g = rule_valid e p g (read_valid s p h)

    go : (r : Reading) → read_sheet s ≡ r → (written (outcome (on_held r (rule e))) out).size ≤ longest
    go (refused k) h = outcome_size (refused k) out tt
    go (held p) h = outcome_size (rule e p) out (ruled p h (rule e p) refl)
