use Rattle.cg_sim_store.proofs.Initials.{initials}
use Rattle.cg_sim_store.proofs.laws.initial_stores.Goals as goal

pub returns : goal.returns
returns c = initials
