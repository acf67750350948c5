use Rattle.std.proofs.Common.{◌≡◌, refl, sym, ◌∙◌, subst, List, ℕ, ◌+◌, length, arith}
use Rattle.chart_writer.specs.Tables.{rights_of}
use Rattle.chart_writer.proofs.Fields.{with_right, both_rights, right_rows, right_lefts, rights_length}
use Rattle.chart_writer.proofs.Extents.{Rights, rights_begin, rights_next}
use Rattle.chart_writer.proofs.bars.rights.Goals as goal

pub loop-j-init : goal.loop-j-init
loop-j-init c = (rights_begin c.args.tree.now c.args.columns.now (rights_of c.args.bars.now), refl, refl)

pub loop-j-preserved : goal.loop-j-preserved
loop-j-preserved c =
    let tree = c.args.tree.now in
    let columns = c.args.columns.now in
    let bars = c.loop-j.bars in
    let j = c.loop-j.j in
    let a = c.low.result in
    let b = c.high.result in
    let size : length (rights_of c.loop-j.bars) ≡ 1024 =
    omega (arith, c.requires.size, rights_length bars, c.loop-j.auto.bars) in (
      subst (λ (l : List ℕ). Rights tree columns (rights_of c.args.bars.now) l (j + 1)) (sym (both_rights bars a b j))
          (rw (c.low.ensures, c.high.ensures.0, c.from.ensures)
          (rights_next tree columns (rights_of c.args.bars.now) (rights_of bars) j c.requires.uprights.0 size (omega arith) c.loop-j.invariant.0)),
      right_lefts (with_right bars a j) b j ∙ (right_lefts bars a j ∙ c.loop-j.invariant.1),
      right_rows (with_right bars a j) b j ∙ (right_rows bars a j ∙ c.loop-j.invariant.2),
    )
