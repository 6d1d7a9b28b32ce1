use Rattle.std.proofs.Common.{◌≡◌, drop}
use Rattle.c_ast.specs.Trees.{statements}
use Rattle.c_check_table.specs.Signatures as spec
use Rattle.c_check_table.proofs.bodies.+statement.Given as goal

abbrev pub invariant-add_in_statements-loop-stmt : goal.invariant-add_in_statements-loop-stmt
invariant-add_in_statements-loop-stmt l =
    spec.in_statements l.scope l.fn.draft (statements l.stmts) ≡ spec.in_statements l.scope l.draft (statements (drop l.stmt-index l.stmts))
