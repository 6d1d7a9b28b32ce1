use Rattle.cg_meaning.proofs.CallRuns.{calls_begin, runs_of_calls}
use Rattle.cg_meaning.proofs.laws.server_calls.Goals as goal

pub returns-clause-begin : goal.returns-clause-begin
returns-clause-begin c = calls_begin

pub returns-clause-run : goal.returns-clause-run
returns-clause-run c = runs_of_calls
