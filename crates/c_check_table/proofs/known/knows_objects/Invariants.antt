use Rattle.std.proofs.Common.{◌≡◌, drop}
use Rattle.c_ast.specs.Trees.{objects}
use Rattle.c_check_table.specs.Known as spec
use Rattle.c_check_table.proofs.known.knows_objects.Given as goal

abbrev pub invariant-loop-field : goal.invariant-loop-field
invariant-loop-field l =
    spec.knows_objects l.scope (objects l.fields) ≡ spec.knows_objects l.scope (objects (drop l.field-index l.fields))
