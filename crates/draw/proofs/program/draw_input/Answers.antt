-- What is done with the first bytes of an input is done with the input (`begins_output` of Inputs.antt).
use mathlib.Core.Path.{◌∙◌, ap}
use Prim.Native.Nat.{ℕ}
use native.Mathlib.Omega.{arith}
use lib.ListN.{take}
use Rattle.draw.specs.Program.{output}
use Rattle.draw.proofs.Inputs.{begins_output}
use Rattle.draw.proofs.program.draw_input.Goals as goal

pub returns-clause-done : goal.returns-clause-done
returns-clause-done c =
    let lent = c.args.lent.now in
    let chart = c.args.chart.now in
    let text = c.args.text.now in
    λ input b. c.draw_first.ensures.done ∙ (ap (λ (k : ℕ). output (take k lent) chart text) c.min.ensures ∙ begins_output lent input c.args.size (omega arith) b chart text)
