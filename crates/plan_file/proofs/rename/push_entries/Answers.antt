use Rattle.std.proofs.Common.{sym, ◌∙◌, ap}
use Rattle.toml.specs.View.{members_view}
use Rattle.plan_file.specs.Renames.{entries_onto}
use Rattle.plan_file.proofs.RenameOrder.{entries-in-order, rises-view}
use Rattle.plan_file.proofs.rename.push_entries.Goals as goal

pub returns-clause-order : goal.returns-clause-order
returns-clause-order c =
    let end = ap (λ ms. entries_onto c.args.kind c.loop-old.found.items (members_view ms)) c.in-None.ensures.steps.0 in
    entries-in-order c.args.kind c.args.found.now.items c.loop-old.found.items (members_view c.args.entries.now.entries)
    (sym c.loop-old.invariant ∙ end) (rises-view c.args.entries.now.entries c.iter-old-items.ensures.ordered) c.requires
