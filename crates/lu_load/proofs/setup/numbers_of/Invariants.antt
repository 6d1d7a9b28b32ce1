use Rattle.std.proofs.Common.{◌≡◌, take, pos}
use Rattle.std.specs.Prelude.{map}
use Rattle.plan_file.specs.declared.plan.Server.{Server}
use Rattle.lu_load.proofs.setup.numbers_of.Given as goal

abbrev pub invariant-loop-server : goal.invariant-loop-server
invariant-loop-server l = l.numbers ≡ map (λ (s : Server). pos s.number) (take l.server-index l.plan.server)
