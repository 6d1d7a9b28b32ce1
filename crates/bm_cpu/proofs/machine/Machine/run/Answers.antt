use Rattle.bm_cpu.proofs.AcceptedLemmas.{is_sized}
use Rattle.bm_cpu.proofs.machine.Machine.run.Goals as goal

pub run-requires-clause-sized : goal.run-requires-clause-sized
run-requires-clause-sized g c = is_sized c.self.inside.code.now c.self.invariant.0
