use Rattle.std.proofs.Common.{◌≡◌}
use Rattle.cg_tests.proofs.driver.run_all.Given as goal

abbrev pub invariant-loop-number : goal.invariant-loop-number
invariant-loop-number l = l.machine.code ≡ l.code
