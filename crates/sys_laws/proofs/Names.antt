-- A server keeps its name and its numbers.
use Rattle.std.proofs.Common.{refl}
use Rattle.sys_world.specs.Setup.{ServerSetup, SystemSetup}
use Rattle.sys_world.specs.World.{start_host, start_cell}
use Rattle.sys_laws.specs.Servers.{IsNamedBy}
use Rattle.sys_laws.proofs.Events.{IsKept}
use Rattle.sys_laws.proofs.Boots.{IsBooted}

pub named-kept : (setup : SystemSetup) → IsKept setup IsNamedBy
named-kept setup = record {
  arrives = λ s h d m live p. record { world = p.world; name = p.name; number = p.number };
  lives = λ s h c life p. record { world = p.world; name = p.name; number = p.number };
  takes = λ s h c store hold place m idle next at p. record { world = p.world; name = p.name; number = p.number };
  waits = λ s h c store m before given busy p. record { world = p.world; name = p.name; number = p.number };
  returns = λ s h c store next m given sends used busy ends p. record { world = p.world; name = p.name; number = p.number };
  dies = λ s h c store m given trap used busy dies p. record { world = p.world; name = p.name; number = p.number };
  commits = λ s h c store number u idle known p. record { world = p.world; name = p.name; number = p.number };
}

pub named-booted : IsBooted IsNamedBy IsNamedBy
named-booted = record {
  before = λ s h d m live p. record { world = p.world; name = p.name; number = p.number };
  after = λ s h d m live p. record { world = p.world; name = p.name; number = p.number };
  boots = λ s h c store next sends used idle none ends p. record { world = p.world; name = p.name; number = p.number };
  dies = λ s h c store trap used idle none dies p. record { world = p.world; name = p.name; number = p.number };
  stays = λ s h c isnt p. p;
}

pub starts-named : (s : ServerSetup) → IsNamedBy s (start_host s) (start_cell s)
starts-named s = record { world = refl; name = refl; number = refl }
