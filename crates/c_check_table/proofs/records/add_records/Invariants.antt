use Rattle.std.proofs.Common.{◌≡◌, drop}
use Rattle.c_ast.specs.Trees.{declarations}
use Rattle.c_check_table.specs.Records as spec
use Rattle.c_check_table.proofs.records.add_records.Given as goal

abbrev pub invariant-loop-decl : goal.invariant-loop-decl
invariant-loop-decl l =
    spec.in_text l.fn.scope l.fn.draft (declarations l.decls) ≡ spec.in_text l.so_far l.draft (declarations (drop l.decl-index l.decls))
