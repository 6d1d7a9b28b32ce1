use Rattle.std.proofs.Common.{◌≡◌, ◌≤◌, ◌++◌, length}
use Rattle.sched_file.specs.Schedule.{rounds_of}
use Rattle.sched_file.proofs.schedule.push_rounds.Given as goal

abbrev pub invariant-loop-round : goal.invariant-loop-round
invariant-loop-round l = record {
  few : length l.events.items ≤ 100000;
  same : l.events.items ≡ l.fn.events.items ++ rounds_of l._round l.servers;
}
