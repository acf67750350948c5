-- The place and the length fit in one number: they are those of the sheet left.
use Rattle.std.proofs.Common.{arith}
use Rattle.lists.proofs.Places.{all_at}
use Rattle.edit_list.proofs.Packing.{result_told, tellable}
use Rattle.bend_c.proofs.bend_run_edits.Goals as goal

pub pack_run-requires : goal.pack_run-requires
pack_run-requires c =
    let list = c.args.list.now in
    tellable c.run.result c.run.new.front c.run.new.back c.run.new.numbers c.run.ensures.answer
    (result_told c.args.first.now list c.args.front.now c.args.back.now c.args.numbers.now (all_at 0 list (λ i h. omega (arith, c.type_inv.list i))))
