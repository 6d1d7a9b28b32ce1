use Rattle.std.proofs.Common.{◌≡◌, ◌+◌, length}
use Rattle.sched_file.specs.Bytes.{length_before}
use Rattle.sched_file.proofs.bytes.length_before_byte.Given as goal

abbrev pub invariant-loop-rest : goal.invariant-loop-rest
invariant-loop-rest l = record {
  whole : l.len + length_before l.stop l.rest ≡ length_before l.stop l.text;
  far : l.len + length l.rest ≡ length l.text;
}

abbrev pub decreases-loop-rest : goal.decreases-loop-rest
decreases-loop-rest l = length l.rest
