use Rattle.cg_meaning.proofs.Deliveries.{boots_begin, deliveries_begin, runs_of_deliveries}
use Rattle.cg_meaning.proofs.laws.deliveries.Goals as goal

pub returns-clause-boot : goal.returns-clause-boot
returns-clause-boot c = boots_begin

pub returns-clause-begin : goal.returns-clause-begin
returns-clause-begin c = deliveries_begin

pub returns-clause-run : goal.returns-clause-run
returns-clause-run c = runs_of_deliveries
