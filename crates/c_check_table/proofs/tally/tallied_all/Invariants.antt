use Rattle.std.proofs.Common.{◌≡◌, drop}
use Rattle.c_ast.specs.Trees.{declarations}
use Rattle.c_check_table.specs.Tally as spec
use Rattle.c_check_table.proofs.tally.tallied_all.Given as goal

abbrev pub invariant-loop-decl : goal.invariant-loop-decl
invariant-loop-decl l =
    (spec.tallied_all l.fn.tally (declarations l.decls) ≡ spec.tallied_all l.so_far (declarations (drop l.decl-index l.decls)))
    × (l.so_far.scope.types ≡ l.fn.tally.scope.types)
    × (l.so_far.scope.names ≡ l.fn.tally.scope.names)
