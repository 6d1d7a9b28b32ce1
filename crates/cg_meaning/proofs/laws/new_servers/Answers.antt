use Rattle.cg_meaning.proofs.Starts.{new_servers, adopted_servers}
use Rattle.cg_meaning.proofs.laws.new_servers.Goals as goal

pub returns-clause-start : goal.returns-clause-start
returns-clause-start c = new_servers

pub returns-clause-adopt : goal.returns-clause-adopt
returns-clause-adopt c = adopted_servers
