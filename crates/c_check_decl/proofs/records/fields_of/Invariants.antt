use Rattle.std.proofs.Common.{◌≡◌, Ok, [], drop}
use Rattle.c_ast.specs.Trees.{objects}
use Rattle.c_check_decl.specs.Records as spec
use Rattle.c_check_decl.proofs.records.fields_of.Given as goal

abbrev pub invariant-loop-named : goal.invariant-loop-named
invariant-loop-named l =
    spec.fields_after l.scope (Ok []) (objects l.fields) ≡ spec.fields_after l.scope l.done (objects (drop l.named-index l.fields))
