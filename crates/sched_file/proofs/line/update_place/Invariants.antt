use Rattle.std.proofs.Common.{◌≡◌, ◌+◌, length}
use Rattle.sched_file.specs.Commands.{update_from}
use Rattle.sched_file.proofs.line.update_place.Given as goal

abbrev pub invariant-loop-rest : goal.invariant-loop-rest
invariant-loop-rest l = record {
  same : update_from l.place l.rest l.name ≡ update_from 0 l.updates l.name;
  far : l.place + length l.rest ≡ length l.updates;
}

abbrev pub decreases-loop-rest : goal.decreases-loop-rest
decreases-loop-rest l = length l.rest
