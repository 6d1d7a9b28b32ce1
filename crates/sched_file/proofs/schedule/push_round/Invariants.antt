use Rattle.std.proofs.Common.{◌≡◌, ◌≤◌, ◌++◌, length}
use Rattle.sched_file.specs.Schedule.{round_of}
use Rattle.sched_file.proofs.schedule.push_round.Given as goal

abbrev pub invariant-loop-server : goal.invariant-loop-server
invariant-loop-server l = record {
  few : length l.events.items ≤ 100000;
  same : l.events.items ≡ l.fn.events.items ++ round_of l.server;
}
