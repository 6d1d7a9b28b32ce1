use Rattle.cg_sim_expr.proofs.Theorem.{places_run}
use Rattle.cg_sim_expr.proofs.laws.places.Goals as goal

pub returns : goal.returns
returns c = places_run
