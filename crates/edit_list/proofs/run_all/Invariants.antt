-- The loop's invariant is `Running`, of the desk as the code holds it.
use mathlib.Core.Path.{◌≡◌}
use lib.ListN.{length}
use Rattle.edit_list.specs.Steps.{desk_in}
use Rattle.edit_list.proofs.Running.{Running}
use Rattle.edit_list.proofs.run_all.Given as goal

abbrev pub invariant-loop-i : goal.invariant-loop-i
invariant-loop-i l =
    (l.desk.first.now ≡ l.first) × (l.initial.desk.front.ghost_name ≡ l.desk.front.ghost_name) × (l.initial.desk.back.ghost_name ≡ l.desk.back.ghost_name)
    × Running l.first l.list l.initial.desk.front.now l.initial.desk.back.now l.initial.numbers (desk_in l.desk) l.numbers (length l.yielded)
