use Rattle.std.proofs.Common.{◌∙◌, ◌≡◌, ap}
use Rattle.std.proofs.lemmas.Result.{on_ok_weaker}
use Rattle.std.specs.Prelude.{slice_set}
use Rattle.sys_world.specs.declared.happened.Happened.TheVariants.{Delivered}
use Rattle.sys_world.specs.World.{change}
use Rattle.sys_world.specs.Mail.{with_history, die_mail}
use Rattle.sys_mail.specs.Room.{cell_values}
use Rattle.sys_mail.proofs.CellLists.{value-set}
use Rattle.sys_mail.proofs.mail.die_in_delivery.Goals as goal

pub returns : goal.returns
returns c =
    let edited : cell_values (slice_set c.args.cells.now c.args.place c.keep_delivery.new.self) ≡ change (with_history (Delivered c.args.message)) c.args.place (cell_values c.args.cells.now) =
    value-set (with_history (Delivered c.args.message)) c.args.cells.now c.args.place c.index-cells-place.result c.keep_delivery.new.self c.requires c.in_ok-keep_delivery.ensures.ok in
    on_ok_weaker c.die.result (λ e. e ∙ ap (λ cells. die_mail c.args.place c.args.trap (record { cells = cells; told = c.args.notes.now.list })) edited) c.die.ensures
