use Rattle.plan_file.proofs.RenameOrder.{none-in-order}
use Rattle.plan_file.proofs.rename.push_table.Goals as goal

pub returns-in-None-clause-order : goal.returns-in-None-clause-order
returns-in-None-clause-order c = none-in-order c.args.kind c.args.found.now.items c.requires
