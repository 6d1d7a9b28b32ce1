use Rattle.std.proofs.Common.{◌≡◌, ◌+◌, length}
use Rattle.sched_file.specs.Words.{run_length}
use Rattle.sched_file.proofs.word.run_len.Given as goal

abbrev pub invariant-loop-rest : goal.invariant-loop-rest
invariant-loop-rest l = record {
  whole : l.len + run_length l.rest ≡ run_length l.text;
  far : l.len + length l.rest ≡ length l.text;
}

abbrev pub decreases-loop-rest : goal.decreases-loop-rest
decreases-loop-rest l = length l.rest
