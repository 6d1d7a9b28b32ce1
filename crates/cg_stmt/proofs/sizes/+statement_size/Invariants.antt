use Rattle.std.proofs.Common.{◌≡◌, ◌+◌, drop}
use Rattle.cg_expr.specs.Seen.{seen}
use Rattle.cg_stmt.specs.StatementSizes as spec
use Rattle.cg_stmt.proofs.sizes.+statement_size.Given as goal

abbrev pub invariant-body_size-loop-statement : goal.invariant-body_size-loop-statement
invariant-body_size-loop-statement l = spec.body_size (seen l.at) l.body ≡ l.size + spec.body_size (seen l.at) (drop l.statement-index l.body)
