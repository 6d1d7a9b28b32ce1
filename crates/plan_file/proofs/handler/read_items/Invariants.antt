use Rattle.std.proofs.Common.{◌≡◌, [], length}
use Rattle.toml.specs.View.{items_view}
use Rattle.plan_file.specs.Lookup.{each_onto}
use Rattle.plan_file.specs.Handlers.{handler_at}
use Rattle.plan_file.proofs.handler.read_items.Given as goal

abbrev pub invariant-loop-rest : goal.invariant-loop-rest
invariant-loop-rest l = each_onto (handler_at) l.handlers.items (items_view l.rest) ≡ each_onto (handler_at) [] (items_view l.items)

abbrev pub decreases-loop-rest : goal.decreases-loop-rest
decreases-loop-rest l = length l.rest
