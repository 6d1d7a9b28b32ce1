use Rattle.std.proofs.Common.{◌≡◌, ◌≤◌, length}
use Rattle.sched_file.specs.Number.{capped_on}
use Rattle.sched_file.proofs.number.capped_value.Given as goal

abbrev pub invariant-loop-rest : goal.invariant-loop-rest
invariant-loop-rest l = record {
  small : l.value ≤ 10000000000;
  same : capped_on l.value l.rest ≡ capped_on 0 l.word;
}

abbrev pub decreases-loop-rest : goal.decreases-loop-rest
decreases-loop-rest l = length l.rest
