use Rattle.std.proofs.Common.{◌≡◌}
use Rattle.c_check_table.specs.Tables as spec
use Rattle.c_check_table.proofs.start.add_unions.Given as goal

abbrev pub invariant-loop-number : goal.invariant-loop-number
invariant-loop-number l = l.draft ≡ spec.with_unions l.fn.draft l.number
