use mathlib.Core.Path.{◌≡◌}
use Prim.Native.Nat.{◌+◌, ◌*◌, ◌-◌, ◌<◌}
use native.Mathlib.Omega.{arith}
use Rattle.tree.specs.Outline.{place_of}
use Rattle.tree.proofs.Outline.{before, inside, stood_next}
use Rattle.tree.proofs.edges.place_diagonals.Goals.{After-low}
use Rattle.tree.proofs.edges.place_diagonals.Goals as goal

-- the diagonal's place
places : (c : After-low) → (before c.args.keys.now c.loop-j.j < c.args.n) × (place_of c.args.keys.now c.loop-j.j < 2 * c.args.n - 3)
places c =
    inside c.args.keys.now c.requires.part.0 c.requires.part.1 c.loop-j.j c.loop-j-test.true

pub outline_before-requires : goal.outline_before-requires
outline_before-requires c = omega (arith, places (goal.at.outline_before-requires c).After-low, c.low.ensures)

pub bounds-listed-j : goal.bounds-listed-j
bounds-listed-j c = omega (arith, places (goal.at.bounds-listed-j c).After-low, c.low.ensures, c.outline_before.ensures)

pub loop-j-preserved : goal.loop-j-preserved
loop-j-preserved c =
    let keys = c.args.keys.now in
    let j = c.loop-j.j in
    let e : j + c.outline_before.result ≡ place_of keys j = omega (arith, c.low.ensures, c.outline_before.ensures) in
    rw e (stood_next keys c.requires.part.0 c.requires.part.1 c.loop-j.invariant c.loop-j-test.true (omega (arith, places (goal.at.loop-j-preserved c).After-low, c.loop-j.auto.listed, c.requires.room)))
