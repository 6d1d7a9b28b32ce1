use Rattle.bm_code.proofs.Steps.{begin_with, step_once}
use Rattle.bm_code.proofs.laws.instructions.Goals as goal

pub returns-clause-begin : goal.returns-clause-begin
returns-clause-begin c = begin_with c.args.code.now c.args.world.now

pub returns-clause-once : goal.returns-clause-once
returns-clause-once c = step_once c.args.code.now c.args.world.now
