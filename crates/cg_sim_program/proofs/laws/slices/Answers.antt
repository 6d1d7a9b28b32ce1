use Rattle.cg_sim_program.proofs.SlicesEnd.{calls_run_in_slices}
use Rattle.cg_sim_program.proofs.laws.slices.Goals as goal

pub returns : goal.returns
returns c = calls_run_in_slices
