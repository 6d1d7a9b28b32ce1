use Rattle.std.proofs.Common.{◌≡◌, ◌+◌, [], length, true}
use Rattle.std.specs.List.{list_all}
use Rattle.toml.specs.View.{items_view}
use Rattle.plan_file.specs.Lookup.{each_onto}
use Rattle.plan_file.specs.Updates.{update_at, has_renames_in_order}
use Rattle.plan_file.proofs.update.read_updates.Given as goal

abbrev pub invariant-loop-rest : goal.invariant-loop-rest
invariant-loop-rest l = record {
  same : each_onto (update_at l.servers) l.read.items (items_view l.rest) ≡ each_onto (update_at l.servers) [] (items_view l.items);
  count : length l.read.items + length l.rest ≡ length l.items;
  order : list_all has_renames_in_order l.read.items ≡ true;
}

abbrev pub decreases-loop-rest : goal.decreases-loop-rest
decreases-loop-rest l = length l.rest
