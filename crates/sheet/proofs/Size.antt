-- No sheet that is written is longer than the longest sheet.
use mathlib.Core.Path.{◌≡◌, refl}
use mathlib.Core.Logic.{inl, inr}
use mathlib.Core.List.{List}
use Prim.Native.Nat.{ℕ, ◌*◌, ◌-◌, ◌≤◌}
use native.Mathlib.Omega.{arith}
use lib.ListN.{length}
use Rattle.polygon.specs.Polygon.{Polygon, Valid}
use Rattle.codec.specs.Answer.{write, written}
use Rattle.codec.proofs.Answers.{written_is}
use Rattle.sheet.specs.Sheet.{Reading, refused, held, angled, longest, read_sheet, normal_sheet, outcome, ordered}
use Rattle.sheet.proofs.Fields.{field_most}
use Rattle.sheet.proofs.Normal.{normal_length_lem}
use Rattle.sheet.proofs.Valid.{read_valid}

-- what a reading holds is valid
abbrev pub ValidPart : Reading → Type 0
ValidPart (refused k) = Unit {0}
ValidPart (held p) = Valid p

pub normal_size : (p : Polygon) → Valid p → length (normal_sheet p) ≤ longest
normal_size p v = omega (arith, normal_length_lem p v, field_most (angled p.angles) (2 * (p.n - 3)), v.most)

-- what an operation writes for such a part
pub written_size_lem : (bs out : List ℕ) → (written (write bs) out).size ≤ length bs
written_size_lem bs out = elim (written_is bs out) [ inl w ↦ rw w.1 (omega arith) | inr w ↦ rw w.1 (omega arith) ]

pub outcome_size : (r : Reading) (out : List ℕ) → ValidPart r → (written (outcome r) out).size ≤ longest
unfolding outcome written
outcome_size (refused k) out v = omega arith
outcome_size (held p) out v = omega (arith, written_size_lem (normal_sheet p) out, normal_size p v)

pub ordered_size : (s out : List ℕ) → (written (ordered s) out).size ≤ longest
unfolding ordered
ordered_size s out = go (read_sheet s) refl
  where
    go : (r : Reading) → read_sheet s ≡ r → (written (outcome (read_sheet s)) out).size ≤ longest
    go (refused k) e = rw e (outcome_size (refused k) out tt)
    go (held p) e = rw e (outcome_size (held p) out (read_valid s p e))
