-- What is planned, drawn and printed of two sheets is the same, whatever is lent.
use Rattle.std.specs.Prelude.{◌≡◌, List, ℕ}
use Rattle.plan.specs.Answer.{planned}
use Rattle.chart.specs.Chart.{Bar}
use Rattle.draw.specs.Answer.{drawn, drawn_with_bars}
use Rattle.draw.specs.Label.{labelled, labelled_with_bars}
use Rattle.draw.specs.Printed.{printed}
use Rattle.draw.specs.Program.{output}

pub record SameDrawing (s t : List ℕ) : Type 0 where
  pub plan : planned s ≡ planned t
  pub draw : drawn s ≡ drawn t
  pub draw_bars : (out : List ℕ) (bars : List Bar) → drawn_with_bars s out bars ≡ drawn_with_bars t out bars
  pub label : labelled s ≡ labelled t
  pub label_bars : (out : List ℕ) (bars : List Bar) → labelled_with_bars s out bars ≡ labelled_with_bars t out bars
  pub log : printed s ≡ printed t
  pub program : (chart text : List ℕ) → output s chart text ≡ output t chart text
