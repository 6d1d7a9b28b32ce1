use Rattle.std.proofs.Common.{rules}
use Rattle.toml.specs.View.{table_view}
use Rattle.plan_file.proofs.Keeps.{plan-keeps}
use Rattle.plan_file.proofs.read.plan_in.Goals as goal

pub returns-clause-forms : goal.returns-clause-forms
returns-clause-forms c =
    plan-keeps (table_view c.args.document.now) (record { schedule = c.in_ok-schedule.schedule; server = c.in_ok-server.server; update = c.in_ok-update.update })
    c.in_ok-schedule.ensures c.in_ok-server.ensures.answer (search rules)
    c.in_ok-server.ensures.count.0 c.in_ok-server.ensures.count.1 c.in_ok-update.ensures.count c.in_ok-update.ensures.order
