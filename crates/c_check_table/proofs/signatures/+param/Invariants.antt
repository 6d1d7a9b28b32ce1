use Rattle.std.proofs.Common.{◌≡◌, Ok, [], drop}
use Rattle.c_ast.specs.Trees.{parameters}
use Rattle.c_check_table.specs.Signatures as spec
use Rattle.c_check_table.proofs.signatures.+param.Given as goal

abbrev pub invariant-add_params-loop-param : goal.invariant-add_params-loop-param
invariant-add_params-loop-param l =
    spec.parameters_in l.scope l.fn.draft (Ok []) (parameters l.params) ≡ spec.parameters_in l.scope l.draft l.types (parameters (drop l.param-index l.params))
