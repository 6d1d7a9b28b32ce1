use Rattle.std.proofs.Common.{◌∙◌, ◌≡◌, sym, ap, rules, to_z, of_z, w32, Some}
use Rattle.std.proofs.lemmas.Result.{on_ok_weaker}
use Rattle.sys_world.specs.Mail.{answered_at, answer_of, place_of}
use Rattle.sys_mail.specs.Room.{cell_values, mail_of}
use Rattle.sys_mail.proofs.mail.answer_to.Goals as goal

pub returns-in-Some : goal.returns-in-Some
returns-in-Some c =
    let n : to_z w32 (of_z w32 c.args.number) ≡ c.args.number = search rules in
    let t : to_z w32 (of_z w32 c.args.to) ≡ c.args.to = search rules in
    let mail = mail_of c.args.cells.now c.args.notes.now in
    let made : c.make_answer-message.result ≡ answer_of c.args.number = c.make_answer-message.ensures ∙ ap answer_of n in
    let place : Some c.in-Some.place ≡ place_of (cell_values c.args.cells.now) c.args.to = sym c.in-Some.is ∙ (c.find_server.ensures ∙ ap (place_of (cell_values c.args.cells.now)) t) in
    on_ok_weaker c.answer_comes.result
    (λ e.
    let comes : mail_of c.answer_comes.new.cells c.args.notes.now ≡ answered_at c.args.name.now c.args.to c.make_answer-message.result (Some c.in-Some.place) mail = e c.args.notes.now.list in
    comes ∙ (ap (λ m. answered_at c.args.name.now c.args.to m (Some c.in-Some.place) mail) made ∙ ap (λ o. answered_at c.args.name.now c.args.to (answer_of c.args.number) o mail) place))
    c.answer_comes.ensures
