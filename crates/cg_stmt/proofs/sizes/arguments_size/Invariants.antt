use Rattle.std.proofs.Common.{◌≡◌, ◌+◌, drop}
use Rattle.cg_stmt.specs.StatementSizes as spec
use Rattle.cg_stmt.proofs.sizes.arguments_size.Given as goal

abbrev pub invariant-loop-e : goal.invariant-loop-e
invariant-loop-e l = spec.arguments_size l.types l.args ≡ l.size + spec.arguments_size l.types (drop l.e-index l.args)
