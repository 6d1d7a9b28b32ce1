use Rattle.std.proofs.Common.{◌≡◌, Ok, drop}
use Rattle.c_ast.specs.Trees.{parameters}
use Rattle.c_check_stmt.specs.Variables as spec
use Rattle.c_check_stmt.proofs.variables.declare_params.Given as goal

abbrev pub invariant-loop-param : goal.invariant-loop-param
invariant-loop-param l = record {
  number : spec.declared_all l.fn.scope (Ok 0) (parameters l.params) ≡ spec.declared_all l.scope l.done (parameters (drop l.param-index l.params));
  scope : spec.with_parameters l.fn.scope (parameters l.params) ≡ spec.with_parameters l.scope (parameters (drop l.param-index l.params));
}
