use Rattle.cg_sim_program.proofs.SourceStarts.{source_starts}
use Rattle.cg_sim_program.proofs.laws.starts.Goals as goal

pub returns : goal.returns
returns c = source_starts
