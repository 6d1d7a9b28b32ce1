use Rattle.std.proofs.Common.{◌+◌, [], length, sym, ◌∙◌, ap, arith}
use Rattle.sched_file.specs.Commands.{line_of}
use Rattle.sched_file.specs.Schedule.{events_from, lines_of}
use Rattle.sched_file.proofs.EventLemmas.{events_from-next, events_from-refused, events_from-end, schedule_of-start, with_line-few}
use Rattle.sched_file.proofs.BasicEvents.{schedule-basic}
use Rattle.sched_file.proofs.LineLemmas.{lines-found, lines-single, rest-shorter}
use Rattle.sched_file.proofs.schedule.read_schedule.Goals as goal

pub loop-line-init : goal.loop-line-init
loop-line-init c =
    record {
      few = (let none = ap length c.new-events.ensures.items in omega (arith, none));
      far = omega arith;
      same = ap (λ es. events_from c.args.plan.now 1 es (lines_of c.args.text.now)) c.new-events.ensures.items ∙ schedule_of-start c.args.plan.now c.args.text.now;
    }

pub loop-line-smaller : goal.loop-line-smaller
loop-line-smaller c = rest-shorter c.loop-line.rest.now c.in-Some.line.now c.in-Some.after.now c.in-Some.ensures

pub loop-line-preserved : goal.loop-line-preserved
loop-line-preserved c =
    let plan = c.args.plan.now in
    let shorter = rest-shorter c.loop-line.rest.now c.in-Some.line.now c.in-Some.after.now c.in-Some.ensures in
    record {
      few = with_line-few (length plan.server) c.loop-line.number c.loop-line.events.items c.push_line.new.events.items (line_of plan c.in-Some.line.now) c.in-Ok.ensures;
      far = omega (arith, c.loop-line.invariant.far, shorter);
      same = events_from-next plan c.loop-line.number c.loop-line.events.items c.push_line.new.events.items c.in-Some.line.now (lines_of c.in-Some.after.now) c.in-Ok.ensures
          ∙ ap (λ ls. events_from plan c.loop-line.number c.loop-line.events.items ls) (sym (lines-found c.loop-line.rest.now c.in-Some.line.now c.in-Some.after.now c.in-Some.ensures))
          ∙ c.loop-line.invariant.same;
    }

pub returns-in-Err-clause-answer : goal.returns-in-Err-clause-answer
returns-in-Err-clause-answer c not_memory =
    let plan = c.args.plan.now in
    sym c.loop-line.invariant.same
    ∙ ap (λ ls. events_from plan c.loop-line.number c.loop-line.events.items ls) (lines-found c.loop-line.rest.now c.in-Some.line.now c.in-Some.after.now c.in-Some.ensures)
    ∙ events_from-refused plan c.loop-line.number c.loop-line.events.items c.in-Some.line.now (lines_of c.in-Some.after.now) c.in-Err.refusal c.in-Err.ensures not_memory

pub returns-in-Ok-push_line-clause-answer : goal.returns-in-Ok-push_line-clause-answer
returns-in-Ok-push_line-clause-answer c =
    let plan = c.args.plan.now in
    sym c.loop-line.invariant.same
    ∙ ap (λ ls. events_from plan c.loop-line.number c.loop-line.events.items ls) (lines-single c.loop-line.rest.now c.in_default.ensures)
    ∙ sym (events_from-next plan c.loop-line.number c.loop-line.events.items c.push_line-2.new.events.items c.loop-line.rest.now [] c.in-Ok-push_line.ensures)
    ∙ events_from-end plan (c.loop-line.number + 1) c.push_line-2.new.events.items

pub returns-in-Err-push_line-clause-answer : goal.returns-in-Err-push_line-clause-answer
returns-in-Err-push_line-clause-answer c not_memory =
    let plan = c.args.plan.now in
    sym c.loop-line.invariant.same
    ∙ ap (λ ls. events_from plan c.loop-line.number c.loop-line.events.items ls) (lines-single c.loop-line.rest.now c.in_default.ensures)
    ∙ events_from-refused plan c.loop-line.number c.loop-line.events.items c.loop-line.rest.now [] c.in-Err-push_line.refusal c.in-Err-push_line.ensures not_memory

pub returns-in-Ok-push_line-clause-basic : goal.returns-in-Ok-push_line-clause-basic
returns-in-Ok-push_line-clause-basic c = schedule-basic c.args.plan.now c.args.text.now c.push_line-2.new.events.items (returns-in-Ok-push_line-clause-answer c)
