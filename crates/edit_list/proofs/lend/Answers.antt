-- By the place of the sheet.
use Rattle.edit.specs.Tables.{edit_of}
use Rattle.edit_list.proofs.Desks.{lent_first, lent_front, lent_back}
use Rattle.edit_list.proofs.lend.Goals as goal

pub returns-in-First : goal.returns-in-First
returns-in-First c =
    lent_first c.args.first.now c.args.front.now c.args.back.now c.args.left c.args.room (edit_of c.args.e) c.edit.result c.edit.new.out c.in-First.is c.edit.ensures

pub returns-in-Front : goal.returns-in-Front
returns-in-Front c =
    lent_front c.args.first.now c.args.front.now c.args.back.now c.args.left c.args.room (edit_of c.args.e) c.edit-in-Front.result c.edit-in-Front.new.out c.in-Front.is c.edit-in-Front.ensures

pub returns-in-Back : goal.returns-in-Back
returns-in-Back c =
    lent_back c.args.first.now c.args.front.now c.args.back.now c.args.left c.args.room (edit_of c.args.e) c.edit-in-Back.result c.edit-in-Back.new.out c.in-Back.is c.edit-in-Back.ensures
