-- Field by field, by the laws of Writing.antt.
use mathlib.Core.Path.{◌≡◌, sym, ◌∙◌}
use mathlib.Core.Bool.{true, false}
use native.Mathlib.Omega.{arith}
use lib.ListN.{length-set}
use Rattle.sheet.specs.Hand.{has_angles}
use Rattle.sheet_writer.proofs.Writing.{size_is, size_by, finished}
use Rattle.sheet_writer.proofs.put_sheet.Goals as goal

pub bounds-out-0 : goal.bounds-out-0
bounds-out-0 c = omega (arith, size_is c.head-h.ensures.valid)

pub put16-requires : goal.put16-requires
put16-requires c = let V = c.head-h.ensures.valid in simp length-set (omega (arith, size_is V, V.most, c.head-h.ensures.corners))

pub put_edges-requires : goal.put_edges-requires
put_edges-requires c = omega (arith, c.put16.auto.s, length-set c.args.out.now 0 c.map_byte.result, size_is c.head-h.ensures.valid, c.bends-bends.ensures.all)

pub put_angles-requires : goal.put_angles-requires
put_angles-requires c =
    let n = size_by c.head-h.ensures.valid true (sym c.head-h.ensures.angles ∙ c.if-h.true) in
    omega (arith, c.put_edges.auto.out, c.put16.auto.s, length-set c.args.out.now 0 c.map_byte.result, n, c.bends-bends.ensures.all)

pub returns-then-h : goal.returns-then-h
returns-then-h c =
    let b : has_angles c.args.part.now.angles ≡ true = sym c.head-h.ensures.angles ∙ c.if-h.true in
    finished c.head-h.ensures.valid c.bends-bends.result.now c.bends-bends.ensures.part c.bends-bends.ensures.all c.args.out.now _ true b c.requires
    (c.put_angles.ensures ∙ rw (c.put_edges.ensures, c.put16.ensures, c.map_byte.ensures, c.bends-bends.ensures.all, c.head-h.ensures.corners, c.head-h.ensures.angles))

pub returns-else-h : goal.returns-else-h
returns-else-h c =
    let b : has_angles c.args.part.now.angles ≡ false = sym c.head-h.ensures.angles ∙ c.if-h.false in
    finished c.head-h.ensures.valid c.bends-bends.result.now c.bends-bends.ensures.part c.bends-bends.ensures.all c.args.out.now _ false b c.requires
    (c.put_edges.ensures ∙ rw (c.put16.ensures, c.map_byte.ensures, c.head-h.ensures.corners, c.head-h.ensures.angles))
