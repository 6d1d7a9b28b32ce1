use Rattle.std.proofs.Common.{◌∙◌, ◌≡◌, sym, ap, rules, to_z, of_z, w32, Some}
use Rattle.std.proofs.lemmas.Result.{on_ok_weaker}
use Rattle.sys_world.specs.Mail.{post_to, place_of}
use Rattle.sys_mail.specs.Room.{cell_values, mail_of}
use Rattle.sys_mail.proofs.mail.post_one.Goals as goal

pub returns-in-Some : goal.returns-in-Some
returns-in-Some c =
    let t : to_z w32 (of_z w32 c.args.to) ≡ c.args.to = search rules in
    let mail = mail_of c.args.cells.now c.args.notes.now in
    let place : Some c.in-Some.place ≡ place_of (cell_values c.args.cells.now) c.args.to = sym c.in-Some.is ∙ (c.find_server.ensures ∙ ap (place_of (cell_values c.args.cells.now)) t) in
    on_ok_weaker c.put_at.result (λ e.
    let comes : mail_of c.put_at.new.cells c.put_at.new.notes ≡ post_to c.args.name.now (c.args.to, c.args.message) (Some c.in-Some.place) mail = e in
    comes ∙ ap (λ o. post_to c.args.name.now (c.args.to, c.args.message) o mail) place) c.put_at.ensures
