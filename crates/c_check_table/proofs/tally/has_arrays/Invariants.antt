use Rattle.std.proofs.Common.{◌≡◌, drop}
use Rattle.c_ast.specs.Trees.{objects}
use Rattle.c_check_table.specs.Tally as spec
use Rattle.c_check_table.proofs.tally.has_arrays.Given as goal

abbrev pub invariant-loop-field : goal.invariant-loop-field
invariant-loop-field l =
    spec.has_arrays l.scope (objects l.fields) ≡ spec.has_arrays l.scope (objects (drop l.field-index l.fields))
