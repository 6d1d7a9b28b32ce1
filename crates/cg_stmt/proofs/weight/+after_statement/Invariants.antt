use Rattle.std.proofs.Common.{◌≡◌, ◌-◌, take}
use Rattle.src_meaning.specs.Weight as spec
use Rattle.cg_stmt.proofs.weight.+after_statement.Given as goal

abbrev pub invariant-after_statements-loop-statement : goal.invariant-after_statements-loop-statement
invariant-after_statements-loop-statement l = l.rest ≡ l.fn.left - spec.body_weight (take l.statement-index l.statements)
