use Rattle.sys_world.proofs.Ending.{transcript-ends}
use Rattle.sys_world.proofs.laws.transcripts_end.Goals as goal

pub returns : goal.returns
returns c = transcript-ends
