use Rattle.std.proofs.Common.{◌≡◌, ◌+◌, [], length}
use Rattle.toml.specs.View.{items_view}
use Rattle.plan_file.specs.Lookup.{each_onto}
use Rattle.plan_file.specs.Servers.{server_at}
use Rattle.plan_file.proofs.server.read_servers.Given as goal

abbrev pub invariant-loop-rest : goal.invariant-loop-rest
invariant-loop-rest l = record {
  same : each_onto (server_at) l.servers.items (items_view l.rest) ≡ each_onto (server_at) [] (items_view l.items);
  count : length l.servers.items + length l.rest ≡ length l.items;
}

abbrev pub decreases-loop-rest : goal.decreases-loop-rest
decreases-loop-rest l = length l.rest
