-- The bends as they are, or each with the angle 0.
use mathlib.Core.Path.{◌≡◌, ap, sym, ◌∙◌}
use mathlib.Core.Bool.{false}
use mathlib.Core.List.{map}
use Prim.Native.Nat.{◌-◌}
use lib.ListN.{take}
use Rattle.polygon.specs.Polygon.{Polygon}
use Rattle.keys.specs.Keys.{keys_in, flat_bend}
use Rattle.sheet.specs.Hand.{has_angles}
use Rattle.edit.proofs.InHand.{in_whole}
use Rattle.seam.proofs.Taken.{flat_half}
use Rattle.seam.proofs.halves.half_bends.Goals as goal

pub returns-else-head : goal.returns-else-head
returns-else-head c =
    let V = c.head.ensures.valid in
    let n = c.args.part.now.n in
    let none : has_angles c.args.part.now.angles ≡ false = sym c.head.ensures.angles ∙ c.if-head.false in
    let H = in_whole V c.head.ensures.corners c.head.ensures.angles c.bends-bends.ensures.part c.bends-bends.ensures.all in
    let flat : take (n - 3) c.flatten.new.out ≡ map flat_bend (keys_in c.bends-bends.result.now) = rw c.bends-bends.ensures.all at c.flatten.ensures in
    rw flat (flat_half (keys_in c.bends-bends.result.now) V none (ap (λ (q : Polygon). q.ds) (sym H.same)))
