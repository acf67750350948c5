-- What Plan answers, whatever the sheet, is read back from the one number that C is given.
-- The counts are below the number of corners (crate umbrella, `umbrellas_bound`).
use mathlib.Core.Path.{◌≡◌, refl}
use mathlib.Core.List.{List}
use Prim.Native.Nat.{ℕ, ◌<◌}
use native.Mathlib.Omega.{arith}
use Rattle.polygon.specs.Polygon.{Polygon}
use Rattle.lists.proofs.Lists.{all_mem}
use Rattle.polygon.proofs.TreeTheorem.{tree_of_lem}
use Rattle.sheet.specs.Sheet.{Reading, held, read_sheet}
use Rattle.sheet.specs.Refusals.{sheet_tests, RefusedBy, by, holds}
use Rattle.sheet.proofs.Refusals.{read_refuses, tests_proper}
use Rattle.sheet.proofs.Valid.{read_valid}
use Rattle.umbrella.specs.Best.{plan_of}
use Rattle.umbrella.proofs.Theorems.{umbrellas_bound}
use Rattle.plan.specs.Answer.{PlanAnswer, answer, planned, PlanReadsBack}

-- each of the four numbers is below 65,536
record Small (a : PlanAnswer) : Type 0 where
  number_small : a.number < 65536
  levels_small : a.levels < 65536
  umbrellas_small : a.umbrellas < 65536
  stems_small : a.stems < 65536

held_small : (s : List ℕ) (p : Polygon) → read_sheet s ≡ held p → Small (answer (held p))
unfolding answer
held_small s p e =
    let b = umbrellas_bound (plan_of p) in
    let v = read_valid s p e in
    let t = (tree_of_lem p.n p.ds v.triangulated).size in
    let c = v.most in
    record { number_small = omega arith; levels_small = omega (arith, b.0, b.2); umbrellas_small = omega (arith, b.2); stems_small = omega (arith, b.1, b.2) }

planned_small : (s : List ℕ) → Small (planned s)
unfolding planned answer
planned_small s = go (read_sheet s) refl (read_refuses s)
  where
    go : (r : Reading) → read_sheet s ≡ r → RefusedBy sheet_tests r → Small (answer r)
    go r e (by m) = record { number_small = (all_mem tests_proper m).1; levels_small = omega arith; umbrellas_small = omega arith; stems_small = omega arith }
    go r e (holds {p}) = held_small s p e

small_back : (a : PlanAnswer) → Small a → PlanReadsBack a
small_back a S = record { number_back = omega arith; levels_back = omega arith; umbrellas_back = omega arith; stems_back = omega arith; one_number = omega arith }

pub plan_reads_back : (s : List ℕ) → PlanReadsBack (planned s)
plan_reads_back s = small_back (planned s) (planned_small s)
