use Rattle.cg_sim_temporary.proofs.Placed.{places_temporaries}
use Rattle.cg_sim_temporary.proofs.Freed.{frees_temporaries, frees_nothing}
use Rattle.cg_sim_temporary.proofs.laws.temporaries.Goals as goal

pub returns-clause-placed : goal.returns-clause-placed
returns-clause-placed c = places_temporaries

pub returns-clause-freed : goal.returns-clause-freed
returns-clause-freed c = frees_temporaries

pub returns-clause-nothing : goal.returns-clause-nothing
returns-clause-nothing c = frees_nothing
