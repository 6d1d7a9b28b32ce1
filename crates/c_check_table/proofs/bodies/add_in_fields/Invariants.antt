use Rattle.std.proofs.Common.{◌≡◌, drop}
use Rattle.c_ast.specs.Trees.{objects}
use Rattle.c_check_table.specs.Signatures as spec
use Rattle.c_check_table.proofs.bodies.add_in_fields.Given as goal

abbrev pub invariant-loop-field : goal.invariant-loop-field
invariant-loop-field l =
    spec.in_objects l.scope l.fn.draft (objects l.fields) ≡ spec.in_objects l.scope l.draft (objects (drop l.field-index l.fields))
