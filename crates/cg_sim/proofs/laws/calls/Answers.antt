use Rattle.cg_sim.proofs.Theorem.{calls_run}
use Rattle.cg_sim.proofs.laws.calls.Goals as goal

pub returns : goal.returns
returns c = calls_run
