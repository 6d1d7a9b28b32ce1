use Rattle.std.proofs.Common.{◌≡◌, ◌++◌, drop, length}
use Rattle.cg_expr.specs.Seen.{seen}
use Rattle.cg_stmt.specs.StatementCode as spec
use Rattle.cg_stmt.proofs.calls.put_arguments.Given as goal

abbrev pub invariant-loop-e : goal.invariant-loop-e
invariant-loop-e l =
    l.fn.code.items ++ spec.arguments_code (seen l.at) l.args (length l.fn.code.items)
    ≡ l.code.items ++ spec.arguments_code (seen l.at) (drop l.e-index l.args) (length l.code.items)
