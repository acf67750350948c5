-- Document 01, "Operations and their refusals": Plan gives levels, umbrellas and stems of the plan drawn, or a refusal 1 to 7, or 23 of request (xi), and zeros.
use Rattle.std.specs.Prelude.{◌≡◌, List, ℕ, ◌+◌, ◌*◌, Result, Ok, Err}
use Rattle.polygon.specs.Tree.{Tree}
use Rattle.codec.specs.declared.refusal.Refusal.{Refusal}
use Rattle.codec.specs.Numbered.{number_of}
use Rattle.codec.specs.Unpacked.{number_in, levels_in, umbrellas_in, stems_in, OneNumber}
use Rattle.sheet.specs.Sheet.{Reading, refused, held, read_sheet}
use Rattle.umbrella.specs.Plan.{Plan, levels, umbrellas, stems}
use Rattle.umbrella.specs.Best.{plan_of}
use Rattle.plan.specs.declared.Totals.{Totals}

pub record PlanAnswer : Type 0 where
  pub number : ℕ
  pub levels : ℕ
  pub umbrellas : ℕ
  pub stems : ℕ

-- "A refusal gives its number and zeros."
abbrev pub plan_refusal : ℕ → PlanAnswer
plan_refusal k = record { number = k; levels = 0; umbrellas = 0; stems = 0 }

-- "Success gives 0": the counts of a plan
abbrev pub counts_of : {t : Tree} → Plan t → PlanAnswer
counts_of p = record { number = 0; levels = levels p; umbrellas = umbrellas p; stems = stems p }

unfoldable pub answer : Reading → PlanAnswer
answer (refused k) = plan_refusal k
answer (held p) = counts_of (plan_of p)

-- Plan
unfoldable pub planned : List ℕ → PlanAnswer
planned s = answer (read_sheet s)

-- the number and the values of each case of the code's answer
abbrev pub planned_of : Result Totals Refusal → PlanAnswer
planned_of (Ok t) = record { number = 0; levels = t.levels; umbrellas = t.umbrellas; stems = t.stems }
planned_of (Err r) = plan_refusal (number_of r)

-- the answer in one number, for C: the number in the low 16 bits, then levels, umbrellas and stems, 16 bits each
abbrev pub packed_plan : PlanAnswer → ℕ
packed_plan a = a.number + a.levels * 65536 + a.umbrellas * 4294967296 + a.stems * 281474976710656

-- the answer is read back from that number, as include/bend.h reads it
pub record PlanReadsBack (a : PlanAnswer) : Type 0 where
  pub number_back : number_in (packed_plan a) ≡ a.number
  pub levels_back : levels_in (packed_plan a) ≡ a.levels
  pub umbrellas_back : umbrellas_in (packed_plan a) ≡ a.umbrellas
  pub stems_back : stems_in (packed_plan a) ≡ a.stems
  pub one_number : OneNumber (packed_plan a)
