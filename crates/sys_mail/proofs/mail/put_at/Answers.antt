use Rattle.std.proofs.Common.{◌∙◌, ◌≡◌, sym, ap, rules, to_z, of_z, w32, get_or}
use Rattle.std.proofs.lemmas.Result.{on_ok_weaker}
use Rattle.sys_world.specs.World.{CellValue}
use Rattle.sys_world.specs.Mail.{answered_at, answer_of, place_of}
use Rattle.sys_mail.specs.Room.{CellRoom, mail_of}
use Rattle.sys_mail.proofs.CellLists.{value-get, get-any, put-dead}
use Rattle.sys_mail.proofs.mail.put_at.Goals as goal

pub returns-in_ok-name-in-Some : goal.returns-in_ok-name-in-Some
returns-in_ok-name-in-Some c =
    let cell : CellValue = (get_or c.args.cells.now c.args.place c.index-cells-place.result).value in
    let mail = mail_of c.args.cells.now c.args.notes.now in
    let source : to_z w32 (of_z w32 c.args.message.source) ≡ c.args.message.source = search rules in
    let number : to_z w32 (of_z w32 c.number-number.result) ≡ cell.number =
    (let n : to_z w32 (of_z w32 c.number-number.result) ≡ c.number-number.result = search rules in n)
    ∙ (c.number-number.ensures ∙ ap (λ (x : CellRoom). x.value.number) (get-any c.args.cells.now c.args.place c.index-cells-place-in-Some-2.result c.index-cells-place.result c.requires)) in
    let name : c.in_ok-name-in-Some.name ≡ cell.name =
    c.in_ok-name-in-Some.ensures ∙ (c.name.ensures ∙ ap (λ (x : CellRoom). x.value.name) (get-any c.args.cells.now c.args.place c.index-cells-place-in-Some.result c.index-cells-place.result c.requires)) in
    on_ok_weaker c.answer_to.result
    (λ e. e ∙ (ap (λ to. answered_at c.in_ok-name-in-Some.name to (answer_of (to_z w32 (of_z w32 c.number-number.result))) (place_of mail.cells to) mail) source
    ∙ put-dead c.args.place c.args.message mail cell c.in-Some.field-0 c.in_ok-name-in-Some.name (to_z w32 (of_z w32 c.number-number.result))
    (value-get c.args.cells.now c.args.place c.index-cells-place.result c.requires) (sym c.trap.ensures ∙ c.in-Some.is) name number)) c.answer_to.ensures
