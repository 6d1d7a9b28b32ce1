use Rattle.sys_dump.proofs.Dumped.{dumps_tell}
use Rattle.sys_dump.proofs.laws.dumps.Goals as goal

pub returns : goal.returns
returns c = dumps_tell
