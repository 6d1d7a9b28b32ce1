use Rattle.std.proofs.Common.{◌≡◌, ◌+◌, length}
use Rattle.plan_file.specs.Updates.{target_from}
use Rattle.plan_file.proofs.update.target_named.Given as goal

abbrev pub invariant-loop-rest : goal.invariant-loop-rest
invariant-loop-rest l = record {
  same : target_from l.place l.rest l.name ≡ target_from 0 l.servers l.name;
  far : l.place + length l.rest ≡ length l.servers;
}

abbrev pub decreases-loop-rest : goal.decreases-loop-rest
decreases-loop-rest l = length l.rest
