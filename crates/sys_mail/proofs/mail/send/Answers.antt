use Rattle.std.proofs.Common.{◌∙◌, ◌≡◌, get_or}
use Rattle.std.proofs.lemmas.Result.{on_ok_weaker}
use Rattle.std.specs.Prelude.{slice_set}
use Rattle.sys_world.specs.World.{CellValue, change}
use Rattle.sys_world.specs.Mail.{with_sent}
use Rattle.sys_mail.specs.Room.{cell_values, mail_of}
use Rattle.sys_mail.proofs.CellLists.{value-set, value-get, send-is}
use Rattle.sys_mail.proofs.mail.send.Goals as goal

pub returns : goal.returns
returns c =
    let cell : CellValue = (get_or c.args.cells.now c.args.place c.index-cells-place.result).value in
    let name : c.in_ok-name.name ≡ cell.name = c.in_ok-name.ensures ∙ c.name.ensures in
    let edited : cell_values (slice_set c.args.cells.now c.args.place c.keep_sent.new.self) ≡ change (with_sent c.args.sends.now) c.args.place (cell_values c.args.cells.now) =
    value-set (with_sent c.args.sends.now) c.args.cells.now c.args.place c.index-cells-place-2.result c.keep_sent.new.self c.requires c.in_ok-keep_sent.ensures.ok in
    on_ok_weaker c.post_each.result (λ e. e ∙ send-is c.args.place c.args.sends.now (mail_of c.args.cells.now c.args.notes.now) cell c.in_ok-name.name
    (cell_values (slice_set c.args.cells.now c.args.place c.keep_sent.new.self)) (value-get c.args.cells.now c.args.place c.index-cells-place.result c.requires) name edited) c.post_each.ensures
