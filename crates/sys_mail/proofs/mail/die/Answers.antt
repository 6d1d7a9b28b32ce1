use Rattle.std.proofs.Common.{◌∙◌, ◌≡◌, ◌++◌, ◌∷◌, [], sym, ap, get_or, rules, to_z, of_z, w32}
use Rattle.std.proofs.lemmas.Result.{on_ok_weaker}
use Rattle.std.specs.Prelude.{slice_set}
use Rattle.lu_lines.specs.declared.note.Note.TheVariants as note
use Rattle.sys_world.specs.World.{CellValue, change}
use Rattle.sys_world.specs.Mail.{with_trap}
use Rattle.sys_mail.specs.Room.{CellRoom, cell_values, mail_of}
use Rattle.sys_mail.proofs.CellLists.{value-set, value-get, get-any, die-is}
use Rattle.sys_mail.proofs.mail.die.Goals as goal

pub returns : goal.returns
returns c =
    let cells = c.args.cells.now in
    let cell : CellValue = (get_or cells c.args.place c.index-cells-place.result).value in
    let name : c.in_ok-name.name ≡ cell.name = c.in_ok-name.ensures ∙ c.name.ensures in
    let n : to_z w32 (of_z w32 c.number-number.result) ≡ c.number-number.result = search rules in
    let number : to_z w32 (of_z w32 c.number-number.result) ≡ cell.number =
    n ∙ (c.number-number.ensures ∙ ap (λ (x : CellRoom). x.value.number) (get-any cells c.args.place c.index-cells-place-2.result c.index-cells-place.result c.requires)) in
    let edited : cell_values (slice_set cells c.args.place c.die.new.self) ≡ change (with_trap c.args.trap) c.args.place (cell_values cells) =
    value-set (with_trap c.args.trap) cells c.args.place c.index-cells-place-3.result c.die.new.self c.requires c.in_ok-waited.ensures.ok in
    let waited : c.as_slice.result.now ≡ cell.inbox =
    c.as_slice.ensures.value ∙ (c.in_ok-waited.ensures.waited ∙ ap (λ (x : CellRoom). x.value.inbox) (get-any cells c.args.place c.index-cells-place-3.result c.index-cells-place.result c.requires)) in
    let told : c.tell.new.notes.list ≡ c.args.notes.now.list ++ note.Trap cell.name c.args.trap ∷ [] =
    (let it : c.tell.new.notes.list ≡ c.args.notes.now.list ++ note.Trap c.in_ok-server.server c.args.trap ∷ [] = c.in_ok-tell.ensures in it)
    ∙ ap (λ server. c.args.notes.now.list ++ note.Trap server c.args.trap ∷ []) (c.in_ok-server.ensures ∙ name) in
    on_ok_weaker c.answer_each.result (λ e. e cell (sym name) (sym number)
    ∙ die-is c.args.place c.args.trap (mail_of cells c.args.notes.now) cell (cell_values (slice_set cells c.args.place c.die.new.self)) c.as_slice.result.now c.tell.new.notes.list
    (value-get cells c.args.place c.index-cells-place.result c.requires) edited waited told) c.answer_each.ensures
