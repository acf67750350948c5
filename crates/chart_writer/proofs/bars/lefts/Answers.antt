use Rattle.std.proofs.Common.{◌≡◌, refl, sym, ◌∙◌, subst, List, ℕ, suc, ◌-◌, length, arith}
use Rattle.chart_writer.specs.Tables.{lefts_of}
use Rattle.chart_writer.proofs.Fields.{with_left, both_lefts, left_rows, left_rights, lefts_length}
use Rattle.chart_writer.proofs.Extents.{Lefts, lefts_begin, lefts_next}
use Rattle.chart_writer.proofs.Placing.{placed_begin, placed_next}
use Rattle.chart_writer.proofs.bars.lefts.Goals as goal

pub loop-j-init : goal.loop-j-init
loop-j-init c = (
  lefts_begin c.args.tree.now c.args.columns.now (lefts_of c.args.bars.now),
  refl,
  refl,
  placed_begin c.args.columns.now c.args.stands.now c.requires.none.1,
)

pub loop-j-preserved : goal.loop-j-preserved
loop-j-preserved c =
    let tree = c.args.tree.now in
    let columns = c.args.columns.now in
    let bars = c.loop-j.bars in
    let j = c.loop-j.j - 1 in
    let a = c.low.result in
    let b = c.high.result in
    let size : length (lefts_of c.loop-j.bars) ≡ 1024 = omega (arith, c.requires.size, lefts_length bars, c.loop-j.auto.bars) in
    let e : suc (c.loop-j.j - 1) ≡ c.loop-j.j = omega arith in (
      subst (λ (l : List ℕ). Lefts tree columns (lefts_of c.args.bars.now) l j) (sym (both_lefts bars a b j))
          (rw (c.low.ensures, c.high.ensures.0, c.from-e.ensures)
          (lefts_next tree columns (lefts_of c.args.bars.now) (lefts_of bars) j c.requires.uprights.0 size (omega arith) (rw e c.loop-j.invariant.0))),
      left_rights (with_left bars a j) b j ∙ (left_rights bars a j ∙ c.loop-j.invariant.1),
      left_rows (with_left bars a j) b j ∙ (left_rows bars a j ∙ c.loop-j.invariant.2),
      rw c.from-e.ensures
          (placed_next columns c.loop-j.stands j (omega arith)
          (omega (arith, c.requires.uprights.0 j (omega arith), c.requires.none.0)) (rw e c.loop-j.invariant.3)),
    )
