use Rattle.std.proofs.Common.{◌≡◌, take, map}
use Rattle.sys_run.specs.declared.system.ServerCode.{ServerCode}
use Rattle.sys_run.proofs.system.numbers_of.Given as goal

abbrev pub invariant-loop-server : goal.invariant-loop-server
invariant-loop-server l = l.numbers.items ≡ map (λ (s : ServerCode). s.number) (take l.server-index l.servers)
