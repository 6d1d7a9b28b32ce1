use Rattle.std.proofs.Common.{◌≡◌, length}
use Rattle.walk_tests.proofs.driver.walked.Given as goal

abbrev pub invariant-loop-object : goal.invariant-loop-object
invariant-loop-object l = l.walk.marks.size ≡ length l.rows
