use Rattle.std.proofs.Common.{◌∙◌, ◌≡◌, ap, rules, to_z, of_z, w32}
use Rattle.std.specs.Prelude.{position}
use Rattle.std.specs.Ordering.{int_eq}
use Rattle.sys_mail.specs.Room.{CellRoom}
use Rattle.sys_mail.proofs.CellLists.{place-of-values}
use Rattle.sys_mail.proofs.mail.find_server.Goals as goal

pub returns : goal.returns
returns c =
    let n : to_z w32 (of_z w32 c.args.number) ≡ c.args.number = search rules in
    let e : c.first_numbered.result ≡ position (λ (x : CellRoom). int_eq x.value.number (to_z w32 (of_z w32 c.args.number))) c.args.cells.now = c.first_numbered.ensures in
    e ∙ (ap (λ n. position (λ (x : CellRoom). int_eq x.value.number n) c.args.cells.now) n ∙ place-of-values c.args.cells.now c.args.number)
