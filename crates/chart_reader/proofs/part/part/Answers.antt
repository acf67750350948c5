-- The count of the diagonals, then the linear test for crossing.
use mathlib.Core.Bool.{false≢true}
use borrow.Author.Tests.{not-true, not-false}
use Prim.Native.Nat.{◌≤◌}
use native.Mathlib.Omega.{arith}
use lib.ListN.{length}
use lib.Seq.{length-take-le}
use Rattle.keys.specs.Keys.{edges_of}
use Rattle.chart_reader.proofs.Choosing.{wrong_count, chosen_diagonals, part_of, none_part}
use Rattle.chart_reader.proofs.part.part.Goals as goal

pub returns-then-m-n : goal.returns-then-m-n
returns-then-m-n c =
    let kept : c.diagonals-m.result ≤ length c.diagonals-m.new.keys = omega (arith, c.diagonals-m.ensures.within, c.diagonals-m.auto.keys, c.requires.2) in
    record { yes = λ h. absurd (false≢true h); no = λ h. wrong_count c.args.n (edges_of c.args.edges.now) c.requires.0 c.diagonals-m.new.keys c.diagonals-m.result kept c.diagonals-m.ensures.kept c.if-m-n.true }

pub crosses-requires : goal.crosses-requires
crosses-requires c =
    let kept : c.diagonals-m.result ≤ length c.diagonals-m.new.keys = omega (arith, c.diagonals-m.ensures.within, c.diagonals-m.auto.keys, c.requires.2) in
    record { part = chosen_diagonals c.args.n (edges_of c.args.edges.now) c.requires.0 c.diagonals-m.new.keys c.diagonals-m.result kept c.diagonals-m.ensures.kept; sizes = (c.requires.1, omega (arith, c.if-m-n.false, length-take-le c.diagonals-m.result c.diagonals-m.new.keys kept)) }

pub returns : goal.returns
returns c =
    let kept : c.diagonals-m.result ≤ length c.diagonals-m.new.keys = omega (arith, c.diagonals-m.ensures.within, c.diagonals-m.auto.keys, c.requires.2) in
    let edges = c.args.edges.now in
    let n = c.args.n in record { yes = λ h. part_of n (edges_of edges) c.requires.0 c.diagonals-m.new.keys c.diagonals-m.result kept c.diagonals-m.ensures.kept c.if-m-n.false (c.crosses.ensures.no (not-true _ h)); no = λ h. none_part n (edges_of edges) c.requires.0 c.diagonals-m.new.keys c.diagonals-m.result kept c.diagonals-m.ensures.kept c.if-m-n.false (c.crosses.ensures.yes (not-false _ h)) }
