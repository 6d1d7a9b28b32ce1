use Rattle.std.proofs.Common.{◌≡◌, ◌++◌, drop, length}
use Rattle.cg_expr.specs.Seen.{seen}
use Rattle.cg_stmt.specs.StatementCode as spec
use Rattle.cg_stmt.proofs.statements.+put_statement.Given as goal

abbrev pub invariant-put_body-loop-statement : goal.invariant-put_body-loop-statement
invariant-put_body-loop-statement l =
    l.fn.code.items ++ spec.body_code (seen l.at) l.body l.to (length l.fn.code.items)
    ≡ l.code.items ++ spec.body_code (seen l.at) (drop l.statement-index l.body) l.to (length l.code.items)
