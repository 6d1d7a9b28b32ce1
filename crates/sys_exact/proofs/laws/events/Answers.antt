use Rattle.sys_exact.proofs.Events.{events_exact}
use Rattle.sys_exact.proofs.laws.events.Goals as goal

pub returns : goal.returns
returns c = events_exact
