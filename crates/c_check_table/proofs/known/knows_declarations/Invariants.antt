use Rattle.std.proofs.Common.{◌≡◌, drop}
use Rattle.c_ast.specs.Trees.{declarations}
use Rattle.c_check_table.specs.Known as spec
use Rattle.c_check_table.proofs.known.knows_declarations.Given as goal

abbrev pub invariant-loop-decl : goal.invariant-loop-decl
invariant-loop-decl l =
    spec.knows_declarations l.scope (declarations l.decls) ≡ spec.knows_declarations l.scope (declarations (drop l.decl-index l.decls))
