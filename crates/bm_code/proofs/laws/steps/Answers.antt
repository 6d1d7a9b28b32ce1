use Rattle.bm_code.proofs.Steps.{steps_compose, steps_prolong, pause_after_steps}
use Rattle.bm_code.proofs.laws.steps.Goals as goal

pub returns-clause-compose : goal.returns-clause-compose
returns-clause-compose c = steps_compose c.args.code.now c.args.world.now

pub returns-clause-prolong : goal.returns-clause-prolong
returns-clause-prolong c = steps_prolong c.args.code.now c.args.world.now

pub returns-clause-pause : goal.returns-clause-pause
returns-clause-pause c = pause_after_steps c.args.code.now c.args.world.now
