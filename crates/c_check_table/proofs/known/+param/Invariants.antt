use Rattle.std.proofs.Common.{◌≡◌, drop}
use Rattle.c_ast.specs.Trees.{parameters}
use Rattle.c_check_table.specs.Known as spec
use Rattle.c_check_table.proofs.known.+param.Given as goal

abbrev pub invariant-knows_parameters-loop-param : goal.invariant-knows_parameters-loop-param
invariant-knows_parameters-loop-param l =
    spec.knows_parameters l.scope (parameters l.params) ≡ spec.knows_parameters l.scope (parameters (drop l.param-index l.params))
