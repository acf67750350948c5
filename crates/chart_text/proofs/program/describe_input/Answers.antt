-- What is said of the first bytes of an input is said of the input (`begins_text` of Inputs.antt).
use mathlib.Core.Path.{◌≡◌, ◌∙◌, ap}
use mathlib.Core.List.{List}
use Prim.Native.Nat.{ℕ}
use native.Mathlib.Omega.{arith}
use lib.ListN.{take}
use Rattle.codec.specs.Input.{Begins}
use Rattle.chart_text.specs.Text.{described}
use Rattle.chart_text.proofs.Inputs.{begins_text}
use Rattle.chart_text.proofs.program.describe_input.Goals as goal

pub returns : goal.returns
returns c =
    let said : (input : List ℕ) → Begins c.args.lent.now c.args.size input → described (take c.min.result c.args.lent.now) ≡ described input =
    λ input b. ap (λ (k : ℕ). described (take k c.args.lent.now)) c.min.ensures ∙ begins_text c.args.lent.now input c.args.size (omega arith) b in
    record { text = λ input b. rw (said input b) at c.describe_first.ensures.text; within = c.describe_first.ensures.within }
