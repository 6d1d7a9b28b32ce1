use Rattle.std.proofs.Common.{◌≡◌, sym, ◌∙◌, ap, get_or, Some, slice_set}
use Rattle.std.proofs.lemmas.Option.{slice_get-get_or}
use Rattle.sys_run.specs.declared.runner.Runner.{Runner}
use Rattle.sys_run.specs.Runs.{in_hand, runner_after, machines_of}
use Rattle.sys_run.proofs.Places.{get-any, get-set, set-set}
use Rattle.sys_run.proofs.Given.{given-is}
use Rattle.sys_run.proofs.kernel.give_ticks.Goals as goal

pub returns : goal.returns
returns c =
    let rs = c.args.runners.now in
    let place = c.args.place in
    let within = c.requires.runner in
    let r : Runner = get_or rs place c.index-runners-place-2.result in
    let ran : Runner = c.run-stop.new.runner in
    let hand : in_hand r ≡ Some c.in-Some.message =
    ap in_hand (get-any rs place c.index-runners-place-2.result c.index-runners-place.result within) ∙ (sym c.in_hand.ensures ∙ c.in-Some.is) in
    let sent : c.outbox-sends.result.now ≡ ran.server.process.outbox =
    c.outbox-sends.ensures ∙ ap (λ (r : Runner). r.server.process.outbox) (get-set rs place ran c.index-runners-place-3.result within) in
    let is : c.leave.new.runner ≡ runner_after c.run-stop.result ran.server ran.message =
    c.leave.ensures ∙ ap (λ (r : Runner). runner_after c.run-stop.result r.server r.message) (get-set rs place ran c.index-runners-place-4.result within) in
    given-is place c.args.ticks (machines_of rs c.args.cells.now c.args.out.now)
    (machines_of (slice_set (slice_set rs place ran) place c.leave.new.runner) c.end_run.new.cells c.end_run.new.out) r ran c.leave.new.runner
    c.in-Some.message c.run-stop.result c.outbox-sends.result.now (slice_get-get_or rs place c.index-runners-place-2.result within) hand
    c.run-stop.ensures.run c.in_ok-end_run.ensures.lasts c.run-stop.ensures.message sent is (set-set rs place ran c.leave.new.runner) c.in_ok-end_run.ensures.mail
