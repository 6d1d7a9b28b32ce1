use Rattle.std.proofs.Common.{◌≡◌, Ok, [], drop}
use Rattle.c_ast.specs.Trees.{statements}
use Rattle.c_check_stmt.specs.Statements as spec
use Rattle.c_check_stmt.proofs.statements.+statement.Given as goal

abbrev pub invariant-typed_statements-loop-stmt : goal.invariant-typed_statements-loop-stmt
invariant-typed_statements-loop-stmt l = record {
  typed : spec.typed_statements l.frame l.is_inside l.fn.state (Ok []) (statements l.list) ≡ spec.typed_statements l.frame l.is_inside l.state l.done (statements (drop l.stmt-index l.list));
  state : spec.after_all l.frame l.fn.state (statements l.list) ≡ spec.after_all l.frame l.state (statements (drop l.stmt-index l.list));
}
