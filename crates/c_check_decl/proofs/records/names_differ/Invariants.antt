use Rattle.std.proofs.Common.{◌≡◌, [], drop}
use Rattle.c_ast.specs.Trees.{objects}
use Rattle.c_check_decl.specs.Records as spec
use Rattle.c_check_decl.proofs.records.names_differ.Given as goal

abbrev pub invariant-loop-field : goal.invariant-loop-field
invariant-loop-field l =
    spec.differ_after [] (objects l.fields) ≡ spec.differ_after l.seen (objects (drop l.field-index l.fields))
