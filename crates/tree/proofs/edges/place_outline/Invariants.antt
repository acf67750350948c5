-- The loop's invariant is `Filling`.
use Rattle.tree.proofs.Outline.{Filling}
use Rattle.tree.proofs.edges.place_outline.Given as goal

abbrev pub invariant-loop-place : goal.invariant-loop-place
invariant-loop-place l = Filling l.n l.keys l.initial.place-items l.place-items l.i l.place-index
