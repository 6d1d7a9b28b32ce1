use Rattle.std.proofs.Common.{◌≡◌, drop}
use Rattle.c_ast.specs.Trees.{statements}
use Rattle.c_check_table.specs.Known as spec
use Rattle.c_check_table.proofs.known.+statement.Given as goal

abbrev pub invariant-knows_statements-loop-stmt : goal.invariant-knows_statements-loop-stmt
invariant-knows_statements-loop-stmt l =
    spec.knows_statements l.scope (statements l.stmts) ≡ spec.knows_statements l.scope (statements (drop l.stmt-index l.stmts))
