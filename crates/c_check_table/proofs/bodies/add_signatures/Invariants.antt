use Rattle.std.proofs.Common.{◌≡◌, drop}
use Rattle.c_ast.specs.Trees.{declarations}
use Rattle.c_check_table.specs.Signatures as spec
use Rattle.c_check_table.proofs.bodies.add_signatures.Given as goal

abbrev pub invariant-loop-decl : goal.invariant-loop-decl
invariant-loop-decl l =
    spec.in_text l.scope l.fn.draft (declarations l.decls) ≡ spec.in_text l.scope l.draft (declarations (drop l.decl-index l.decls))
