use Rattle.cg_sim_program.proofs.SourceCompiled.{source_compiled}
use Rattle.cg_sim_program.proofs.laws.codes.Goals as goal

pub returns : goal.returns
returns c = source_compiled
