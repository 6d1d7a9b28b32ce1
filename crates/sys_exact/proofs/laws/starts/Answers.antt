use Rattle.sys_exact.proofs.Starts.{starts_exact}
use Rattle.sys_exact.proofs.laws.starts.Goals as goal

pub returns : goal.returns
returns c = starts_exact
