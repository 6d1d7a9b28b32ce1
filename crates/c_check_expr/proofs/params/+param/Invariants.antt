use Rattle.std.proofs.Common.{◌≡◌, Ok, [], drop}
use Rattle.c_ast.specs.Trees.{parameters}
use Rattle.c_check_expr.specs.Declarators as spec
use Rattle.c_check_expr.proofs.params.+param.Given as goal

abbrev pub invariant-param_types-loop-param : goal.invariant-param_types-loop-param
invariant-param_types-loop-param l =
    spec.param_types l.scope (Ok []) (parameters l.params) ≡ spec.param_types l.scope l.types (parameters (drop l.param-index l.params))
