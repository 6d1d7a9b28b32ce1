use Rattle.std.proofs.Common.{◌≡◌, ◌+◌, length}
use Rattle.plan_file.specs.Forms.{before_byte}
use Rattle.plan_file.proofs.form.length_before.Given as goal

abbrev pub invariant-loop-rest : goal.invariant-loop-rest
invariant-loop-rest l = record {
  whole : l.len + length (before_byte l.stop l.rest) ≡ length (before_byte l.stop l.text);
  far : l.len + length l.rest ≡ length l.text;
}

abbrev pub decreases-loop-rest : goal.decreases-loop-rest
decreases-loop-rest l = length l.rest
