-- The loop's invariant: the first j diagonals stand at their places.
use Rattle.tree.specs.Outline.{Stood}
use Rattle.tree.proofs.edges.place_diagonals.Given as goal

abbrev pub invariant-loop-j : goal.invariant-loop-j
invariant-loop-j l = Stood l.j l.keys l.listed
