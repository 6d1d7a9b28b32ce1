use Rattle.std.proofs.Common.{◌≡◌, ◌+◌, length}
use Rattle.machine_tests.specs.Fit.{AreAccepted}
use Rattle.machine_tests.proofs.programs.functions.Given as goal

abbrev pub invariant-loop-signature : goal.invariant-loop-signature
invariant-loop-signature l = record {
  each : AreAccepted l.types l.all.items;
  count : length l.all.items ≡ l.signature-index + 1;
}
