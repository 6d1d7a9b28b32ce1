use Rattle.std.proofs.Common.{◌≡◌, drop}
use Rattle.c_ast.specs.Trees.{expressions}
use Rattle.c_check_expr.specs.Calls.{gathered, gathered_after}
use Rattle.c_check_expr.proofs.calls.gathered.Given as goal

abbrev pub invariant-loop-index : goal.invariant-loop-index
invariant-loop-index l =
    gathered l.scope (expressions l.args) l.params ≡ gathered_after l.scope l.list (drop l.index (expressions l.args)) (drop l.index l.params)
