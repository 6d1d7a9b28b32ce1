use Rattle.std.proofs.Common.{◌≡◌, sym, ◌∙◌, ap, get_or, true, slice_set}
use Rattle.std.proofs.lemmas.Option.{slice_get-get_or}
use Rattle.sys_mail.specs.Room.{CellRoom}
use Rattle.sys_mail.proofs.CellLists.{value-get}
use Rattle.sys_run.specs.declared.runner.Runner.{Runner}
use Rattle.sys_run.specs.Runs.{is_idle, runner_after, machines_of}
use Rattle.sys_run.proofs.Places.{get-any, get-set, set-set}
use Rattle.sys_run.proofs.Given.{booted-is, booted-not}
use Rattle.sys_run.proofs.kernel.boot_server.Goals as goal

pub returns-then-not-is_idle : goal.returns-then-not-is_idle
returns-then-not-is_idle c =
    let rs = c.args.runners.now in
    let cs = c.args.cells.now in
    let place = c.args.place in
    let r : Runner = get_or rs place c.index-runners-place.result in
    let x : CellRoom = get_or cs place c.index-cells-place.result in
    booted-not place (machines_of rs cs c.args.out.now) r x.value
    (slice_get-get_or rs place c.index-runners-place.result c.requires.runner) (value-get cs place c.index-cells-place.result c.requires.cell) (sym c.is_idle.ensures ∙ c.if-not-is_idle.true)

pub returns : goal.returns
returns c =
    let rs = c.args.runners.now in
    let cs = c.args.cells.now in
    let place = c.args.place in
    let within = c.requires.runner in
    let r : Runner = get_or rs place c.index-runners-place-2.result in
    let ran : Runner = c.run_init-stop.new.runner in
    let x : CellRoom = get_or cs place c.index-cells-place.result in
    let idle : is_idle r x.value ≡ true =
    ap (λ (r : Runner). is_idle r x.value) (get-any rs place c.index-runners-place-2.result c.index-runners-place.result within) ∙ (sym c.is_idle.ensures ∙ c.if-not-is_idle.false) in
    let sent : c.outbox-sends.result.now ≡ ran.server.process.outbox =
    c.outbox-sends.ensures ∙ ap (λ (r : Runner). r.server.process.outbox) (get-set rs place ran c.index-runners-place-3.result within) in
    let is : c.leave.new.runner ≡ runner_after c.run_init-stop.result ran.server ran.message =
    c.leave.ensures ∙ ap (λ (r : Runner). runner_after c.run_init-stop.result r.server r.message) (get-set rs place ran c.index-runners-place-4.result within) in
    booted-is place (machines_of rs cs c.args.out.now)
    (machines_of (slice_set (slice_set rs place ran) place c.leave.new.runner) c.end_init.new.cells c.end_init.new.out) r ran c.leave.new.runner x.value
    c.run_init-stop.result c.outbox-sends.result.now (slice_get-get_or rs place c.index-runners-place-2.result within) (value-get cs place c.index-cells-place.result c.requires.cell) idle
    c.run_init-stop.ensures.run c.in_ok-end_init.ensures.lasts c.run_init-stop.ensures.message sent is (set-set rs place ran c.leave.new.runner) c.in_ok-end_init.ensures.mail
