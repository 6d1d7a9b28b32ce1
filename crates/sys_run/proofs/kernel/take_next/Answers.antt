use Rattle.std.proofs.Common.{◌≡◌, sym, ◌∙◌, ap, get_or, true, Some}
use Rattle.std.proofs.lemmas.Option.{slice_get-get_or}
use Rattle.std.specs.Prelude.{slice_set}
use Rattle.mk_queue.specs.Held.{next_message}
use Rattle.sys_world.specs.Mail.{without}
use Rattle.sys_mail.specs.Room.{CellRoom, cell_values}
use Rattle.sys_mail.proofs.CellLists.{value-get, value-set}
use Rattle.sys_run.specs.declared.runner.Runner.{Runner}
use Rattle.sys_run.specs.Runs.{is_idle}
use Rattle.sys_run.specs.Events.{no_hold}
use Rattle.sys_run.proofs.Places.{get-any}
use Rattle.sys_run.proofs.Given.{take-is}
use Rattle.sys_run.proofs.kernel.take_next.Goals as goal

pub returns : goal.returns
returns c = λ told.
    let rs = c.args.runners.now in
    let cs = c.args.cells.now in
    let place = c.args.place in
    let r : Runner = get_or rs place c.index-runners-place-2.result in
    let x : CellRoom = get_or cs place c.index-cells-place-3.result in
    let idle : is_idle r x.value ≡ true =
    ap (λ (r : Runner). is_idle r x.value) (get-any rs place c.index-runners-place-2.result c.index-runners-place.result c.requires.runner)
    ∙ (ap (λ (x : CellRoom). is_idle (get_or rs place c.index-runners-place.result) x.value) (get-any cs place c.index-cells-place-3.result c.index-cells-place.result c.requires.cell)
    ∙ (sym c.is_idle.ensures ∙ c.if-not-is_idle.false)) in
    let next : next_message no_hold x.value.inbox ≡ Some c.in-Some.at =
    ap (λ (x : CellRoom). next_message no_hold x.value.inbox) (get-any cs place c.index-cells-place-3.result c.index-cells-place-2.result c.requires.cell)
    ∙ (sym c.next_of.ensures.place ∙ c.in-Some.is) in
    take-is place (record { runners = rs; mail = record { cells = cell_values cs; told = told } }) r x.value c.in-Some.at c.take-message.result
    (slice_set rs place c.begin.new.runner) (cell_values (slice_set cs place c.take-message.new.self))
    (slice_get-get_or rs place c.index-runners-place-2.result c.requires.runner) (value-get cs place c.index-cells-place-3.result c.requires.cell) idle next
    c.take-message.ensures.message (ap (slice_set rs place) c.begin.ensures)
    (value-set (without c.in-Some.at) cs place c.index-cells-place-3.result c.take-message.new.self c.requires.cell c.take-message.ensures.rest)
