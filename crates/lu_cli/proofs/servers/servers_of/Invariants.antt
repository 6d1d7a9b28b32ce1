use Rattle.std.proofs.Common.{◌≡◌, length}
use Rattle.lu_cli.proofs.ServerLemmas.{EachIs}
use Rattle.lu_cli.proofs.servers.servers_of.Given as goal

abbrev pub invariant-loop-n : goal.invariant-loop-n
invariant-loop-n l = record {
  count : length l.servers.items ≡ l.n;
  each : EachIs l.setup.plan.server l.setup.codes l.servers.items;
}
