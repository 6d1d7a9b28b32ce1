use Rattle.cg_sim_expr.proofs.Theorem.{expressions_run}
use Rattle.cg_sim_expr.proofs.laws.expressions.Goals as goal

pub returns : goal.returns
returns c = expressions_run
