use Rattle.std.proofs.Common.{◌≡◌, Ok, [], drop}
use Rattle.c_ast.specs.Trees.{objects}
use Rattle.c_check_table.specs.Records as spec
use Rattle.c_check_table.proofs.records.add_fields.Given as goal

abbrev pub invariant-loop-field : goal.invariant-loop-field
invariant-loop-field l =
    spec.fields_in l.scope l.fn.draft (Ok []) (objects l.fields) ≡ spec.fields_in l.scope l.draft l.done (objects (drop l.field-index l.fields))
