use Rattle.bm_serve.proofs.Fresh.{space_fresh}
use Rattle.bm_serve.proofs.space.Space.fresh.Goals as goal

pub returns-clause-space : goal.returns-clause-space
returns-clause-space g c = λ types. space_fresh types _ _ c.fresh.ensures c.fresh-2.ensures
