use Rattle.std.proofs.Common.{◌≡◌, ◌++◌, take}
use Rattle.std.specs.Prelude.{map}
use Rattle.lu_load.specs.Programs.{server_source, update_source}
use Rattle.lu_load.proofs.source.sources_of.Given as goal

abbrev pub invariant-loop-server : goal.invariant-loop-server
invariant-loop-server l = l.sources ≡ map server_source (take l.server-index l.plan.server)

abbrev pub invariant-loop-update : goal.invariant-loop-update
invariant-loop-update l =
    l.sources ≡ map server_source l.plan.server ++ map update_source (take l.update-index l.plan.update)
