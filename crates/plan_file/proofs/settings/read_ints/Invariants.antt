use Rattle.std.proofs.Common.{◌≡◌, [], length}
use Rattle.toml.specs.View.{items_view}
use Rattle.plan_file.specs.Lookup.{each_onto}
use Rattle.plan_file.specs.Updates.{hold_at}
use Rattle.plan_file.proofs.settings.read_ints.Given as goal

abbrev pub invariant-loop-rest : goal.invariant-loop-rest
invariant-loop-rest l = each_onto (hold_at) l.ints.items (items_view l.rest) ≡ each_onto (hold_at) [] (items_view l.items)

abbrev pub decreases-loop-rest : goal.decreases-loop-rest
decreases-loop-rest l = length l.rest
