use Rattle.std.proofs.Common.{◌≡◌, ◌-◌, take}
use Rattle.src_meaning.specs.Weight as spec
use Rattle.cg_stmt.proofs.weight.after_arguments.Given as goal

abbrev pub invariant-loop-e : goal.invariant-loop-e
invariant-loop-e l = l.rest ≡ l.fn.left - spec.exprs_weight (take l.e-index l.args)
