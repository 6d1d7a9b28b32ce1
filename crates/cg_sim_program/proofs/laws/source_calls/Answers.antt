use Rattle.cg_sim.proofs.Theorem.{calls_run}
use Rattle.cg_program.specs.Compiled.{machine_code}
use Rattle.cg_sim_program.proofs.SourceCompiled.{source_compiled}
use Rattle.cg_sim_program.proofs.laws.source_calls.Goals as goal

pub returns : goal.returns
returns c s is world store ok f d e args typed ticks =
    calls_run s.program is.valid (machine_code s) (source_compiled s is) world store ok f d e args typed ticks
