use Rattle.std.proofs.Common.{◌≡◌, drop}
use Rattle.c_ast.specs.Trees.{declarations}
use Rattle.c_check.specs.Verdict as spec
use Rattle.c_check.proofs.verdict.judged.Given as goal

abbrev pub invariant-loop-decl : goal.invariant-loop-decl
invariant-loop-decl l =
    (spec.judged (declarations l.text) l.functions 1 l.fn.standing (declarations l.text) ≡ spec.judged (declarations l.text) l.functions l.number l.so_far (declarations (drop l.decl-index l.text)))
    × (l.so_far.scope.types ≡ l.fn.standing.scope.types)
