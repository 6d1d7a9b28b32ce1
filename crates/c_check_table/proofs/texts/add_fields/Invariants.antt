use Rattle.std.proofs.Common.{◌≡◌, drop}
use Rattle.c_ast.specs.Trees as trees
use Rattle.c_check_table.specs.Outlines as spec
use Rattle.c_check_table.proofs.texts.add_fields.Given as goal

abbrev pub invariant-loop-field : goal.invariant-loop-field
invariant-loop-field l =
    spec.fields_named l.fn.outline (trees.objects l.fields) ≡ spec.fields_named l.outline (trees.objects (drop l.field-index l.fields))
