use mathlib.Core.Path.{◌≡◌, sym, ◌∙◌, ap}
use mathlib.Core.List.{List}
use Prim.Native.Nat.{ℕ, ◌<◌}
use native.Mathlib.Omega.{arith}
use lib.ListN.{get_or}
use lib.Seq.{take-set-le, get_or-take}
use Rattle.tree.proofs.Lasting.{lasts_next}
use Rattle.tree.proofs.place_lasts.Goals.{After-low-c}
use Rattle.tree.proofs.place_lasts.Goals as goal

-- the key read is below 1,048,576
small : (c : After-low-c) → get_or c.loop-j.tree c.loop-j.j 0 < 1048576
small c =
    let j = c.loop-j.j in
    let e : get_or c.loop-j.tree j 0 ≡ get_or c.args.tree.now j 0 = sym (get_or-take 2048 c.loop-j.tree j 0 (omega arith)) ∙ (ap (λ (l : List ℕ). get_or l j 0) c.loop-j.invariant.0 ∙ get_or-take 2048 c.args.tree.now j 0 (omega arith)) in
    omega (arith, e, c.requires.2 j (omega arith))

pub bounds-tree-c : goal.bounds-tree-c
bounds-tree-c c = omega (arith, small (goal.at.bounds-tree-c c).After-low-c, c.low-c.ensures)

pub loop-j-preserved : goal.loop-j-preserved
loop-j-preserved c =
    let room = c.loop-j.auto.tree ∙ c.requires.1 in
    let few : c.low-c.result < 1024 = omega (arith, small (goal.at.loop-j-preserved c).After-low-c, c.low-c.ensures) in (
      take-set-le 2048 c.loop-j.tree _ _ (omega arith) ∙ c.loop-j.invariant.0,
      lasts_next c.loop-j.tree c.loop-j.j _ room (omega arith) few c.low-c.ensures c.loop-j.invariant.1,
    )
