-- The loop's invariant: the last edges among the first j are kept, and the edges are as they were.
use mathlib.Core.Path.{◌≡◌}
use lib.ListN.{take}
use Rattle.tree.specs.Table.{Lasts}
use Rattle.tree.proofs.place_lasts.Given as goal

abbrev pub invariant-loop-j : goal.invariant-loop-j
invariant-loop-j l = (take 2048 l.tree ≡ take 2048 l.initial.tree) × Lasts l.j l.tree
