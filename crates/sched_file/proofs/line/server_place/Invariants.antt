use Rattle.std.proofs.Common.{◌≡◌, ◌+◌, length}
use Rattle.sched_file.specs.Commands.{server_from}
use Rattle.sched_file.proofs.line.server_place.Given as goal

abbrev pub invariant-loop-rest : goal.invariant-loop-rest
invariant-loop-rest l = record {
  same : server_from l.place l.rest l.name ≡ server_from 0 l.servers l.name;
  far : l.place + length l.rest ≡ length l.servers;
}

abbrev pub decreases-loop-rest : goal.decreases-loop-rest
decreases-loop-rest l = length l.rest
