use Rattle.std.proofs.lemmas.Result.{on_ok_weaker}
use Rattle.sys_world.specs.Mail.{with_arrival}
use Rattle.sys_mail.proofs.CellLists.{value-set}
use Rattle.sys_mail.proofs.mail.arrive_at.Goals as goal

pub returns : goal.returns
returns c =
    on_ok_weaker c.arrive.result
    (λ e. value-set (with_arrival c.args.message) c.args.cells.now c.args.place c.index-cells-place.result c.arrive.new.self c.requires e) c.arrive.ensures.ok
