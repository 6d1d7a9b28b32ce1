use Rattle.std.proofs.Common.{◌≡◌, take}
use Rattle.src_tree.proofs.copy_expr.copy_exprs.Given as goal

abbrev pub invariant-loop-e : goal.invariant-loop-e
invariant-loop-e l = l.copies ≡ take l.e-index l.es
