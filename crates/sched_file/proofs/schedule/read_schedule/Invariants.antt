use Rattle.std.proofs.Common.{◌≡◌, ◌≤◌, ◌+◌, length}
use Rattle.sched_file.specs.Schedule.{schedule_of, events_from, lines_of}
use Rattle.sched_file.proofs.schedule.read_schedule.Given as goal

abbrev pub invariant-loop-line : goal.invariant-loop-line
invariant-loop-line l = record {
  few : length l.events.items ≤ 100000;
  far : l.number + length l.rest ≤ length l.text + 1;
  same : events_from l.plan l.number l.events.items (lines_of l.rest) ≡ schedule_of l.plan l.text;
}

abbrev pub decreases-loop-line : goal.decreases-loop-line
decreases-loop-line l = length l.rest
