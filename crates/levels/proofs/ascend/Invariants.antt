-- The loop's invariant: so many places of the path are left, and what was the way up from `upto` is the way up from the place behind them, in the table as it is then.
use Rattle.std.proofs.Common.{◌≡◌, ℕ, ◌+◌, ◌≤◌, length, take, drop}
use Rattle.polygon.specs.Tree.{Tree}
use Rattle.levels.specs.Kept.{Grows, Rising}
use Rattle.levels.proofs.ascend.Given as goal

abbrev pub invariant-loop-e : goal.invariant-loop-e
invariant-loop-e l =
    let left = l.e-iterator.iter.rest.now in
    (left ≡ take (length left) (drop l.from l.path))
    × (l.from + length left ≤ l.upto)
    × (length l.depths ≡ 12270)
    × Grows l.tree l.initial.depths l.depths
    × ((e : ℕ) (t : Tree) → Rising l.tree l.initial.depths l.path l.from e t l.upto → Rising l.tree l.depths l.path l.from e t (l.from + length left))
