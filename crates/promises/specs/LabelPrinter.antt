-- Request (ii), "The label printer", sentence by sentence. `labelled` and `labelled_with_bars` are the label's calls (crate draw, specs/Label.antt), `drawn` and `drawn_with_bars` the tape's (specs/Answer.antt);
-- `chart_of` is the chart closed up, as request (v) says: "The label's limit counts closed rows."; `tight_part` is in crate umbrella, specs/Tight.antt.
use Rattle.std.specs.Prelude.{◌≡◌, ◌↔◌, List, ℕ, suc, ◌+◌, ◌^◌, ◌≤◌, ◌<◌}
use Rattle.polygon.specs.Polygon.{Polygon, Valid}
use Rattle.codec.specs.Answer.{refuse, write, written}
use Rattle.codec.specs.TwoOutputs.{refusal_both}
use Rattle.sheet.specs.Sheet.{refused, held, read_sheet, normal_sheet}
use Rattle.umbrella.specs.Plan.{levels}
use Rattle.umbrella.specs.Best.{plan_of}
use Rattle.umbrella.specs.Tight.{tight_part}
use Rattle.plan.specs.Answer.{planned}
use Rattle.chart.specs.Chart.{Bar, chart_of}
use Rattle.chart.specs.Bytes.{bytes_of}
use Rattle.draw.specs.Answer.{drawn, drawn_with_bars}
use Rattle.draw.specs.Label.{labelled, labelled_with_bars, Tall}

-- the label's calls do what the tape's do, whatever is lent
pub record AsTape (s : List ℕ) : Type 0 where
  pub bytes : labelled s ≡ drawn s
  pub bars : (out : List ℕ) (bars : List Bar) → labelled_with_bars s out bars ≡ drawn_with_bars s out bars

-- they refuse by k, whatever is lent
pub record LabelRefuses (s : List ℕ) (k : ℕ) : Type 0 where
  pub bytes : labelled s ≡ refuse k
  pub bars : (out : List ℕ) (bars : List Bar) → labelled_with_bars s out bars ≡ refusal_both k out bars

-- a part of D levels, with its sheet: it has as few corners as a part of D levels can have
pub record Tightest (D : ℕ) : Type 0 where
  pub valid : Valid (tight_part D)
  pub corners : (tight_part D).n + 1 ≡ 2 ^ suc D
  pub sheet : read_sheet (normal_sheet (tight_part D)) ≡ held (tight_part D)
  pub plan : ((planned (normal_sheet (tight_part D))).number ≡ 0) × ((planned (normal_sheet (tight_part D))).levels ≡ D)
  -- its rows are few, so that the label takes it: the limit is not one of levels
  pub rows : (chart_of (tight_part D)).rows ≡ D + 1
  pub taken : labelled (normal_sheet (tight_part D)) ≡ write (bytes_of (chart_of (tight_part D)))

pub record LabelPrinter : Type 0 where
  -- "One customer prints on labels of fifteen rows. The printer calls the same drawing with its own limit,"
  pub fifteen : (s : List ℕ) (p : Polygon) → read_sheet s ≡ held p → (chart_of p).rows ≤ 15 → AsTape s
  -- so what the label writes is what the tape writes: an answer other than 19 is the tape's, of any sheet
  pub same_bytes : (s out : List ℕ) → ¬ ((written (labelled s) out).number ≡ 19) → written (labelled s) out ≡ written (drawn s) out
  pub same_bars : (s out : List ℕ) (bars : List Bar) → ¬ ((labelled_with_bars s out bars).answer.number ≡ 19) → labelled_with_bars s out bars ≡ drawn_with_bars s out bars
  -- "while the tape keeps 1,024 corners and all its rows."
  pub tape : (s : List ℕ) (p : Polygon) → read_sheet s ≡ held p → drawn s ≡ write (bytes_of (chart_of p))
  -- "a part of D levels never has fewer than 2 to the power D+1, less 1, corners,"
  pub fewest : (p : Polygon) → Valid p → 2 ^ suc (levels (plan_of p)) ≤ p.n + 1
  -- "and for each D from 1 to 9 some part has exactly that many."
  pub reached : (D : ℕ) → 1 ≤ D → D ≤ 9 → Tightest D
  -- "So no part under 511 corners is ever refused for its rows."
  pub small : (s : List ℕ) (p : Polygon) → read_sheet s ≡ held p → p.n < 511 → AsTape s
  -- "(Refusal 19, .. : the chart has more than fifteen rows; .. and before 8.)": whatever is lent, and then only
  pub tall : (s : List ℕ) (p : Polygon) → read_sheet s ≡ held p → 15 < (chart_of p).rows → LabelRefuses s 19
  pub then_only : (s out : List ℕ) → ((written (labelled s) out).number ≡ 19) ↔ Tall s
  pub then_only_bars : (s out : List ℕ) (bars : List Bar) → ((labelled_with_bars s out bars).answer.number ≡ 19) ↔ Tall s
  -- "after 7": a sheet that is refused is refused by its own number
  pub after : (s : List ℕ) (k : ℕ) → read_sheet s ≡ refused k → LabelRefuses s k
  -- "label calls only": no list of numbers in DemandOne has 19 but theirs, and the tape's calls never give it
  pub never : (s out : List ℕ) → ¬ ((written (drawn s) out).number ≡ 19)
  pub never_bars : (s out : List ℕ) (bars : List Bar) → ¬ ((drawn_with_bars s out bars).answer.number ≡ 19)
