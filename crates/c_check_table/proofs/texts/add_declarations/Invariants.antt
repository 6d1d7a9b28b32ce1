use Rattle.std.proofs.Common.{◌≡◌, drop}
use Rattle.c_ast.specs.Trees as trees
use Rattle.c_check_table.specs.Outlines as spec
use Rattle.c_check_table.proofs.texts.add_declarations.Given as goal

abbrev pub invariant-loop-decl : goal.invariant-loop-decl
invariant-loop-decl l =
    spec.declared_after l.fn.outline 0 (trees.declarations l.declarations) ≡ spec.declared_after l.outline l.place (trees.declarations (drop l.decl-index l.declarations))
