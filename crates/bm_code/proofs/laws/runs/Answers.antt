use Rattle.bm_code.proofs.Pause.{composes, one_end}
use Rattle.bm_code.proofs.Ends.{always_end}
use Rattle.bm_code.proofs.laws.runs.Goals as goal

pub returns-clause-compose : goal.returns-clause-compose
returns-clause-compose c = composes c.args.code.now c.args.world.now

pub returns-clause-one : goal.returns-clause-one
returns-clause-one c = one_end c.args.code.now c.args.world.now

pub returns-clause-ends : goal.returns-clause-ends
returns-clause-ends c = always_end c.args.code.now c.args.world.now
