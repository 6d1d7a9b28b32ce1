-- Systems before their boot.
use Rattle.std.specs.Prelude.{◌≡◌, ℕ, List, [], map, Some, slice_get}
use Rattle.cg_program.specs.Compiled.{IsSource}
use Rattle.sys_world.specs.Setup.{ServerSetup, SystemSetup}
use Rattle.sys_world.specs.World.{start}
use Rattle.sys_run.specs.declared.system.ServerCode.{ServerCode}
use Rattle.sys_run.specs.Runs.{Machines}
use Rattle.sys_run.specs.Start.{start_runner, start_cell}
use Rattle.sys_exact.specs.StandsFor.{StandsFor}

-- the processes at the start of their programs, and nothing told
abbrev pub machines_at_start : List ServerCode → Machines
machines_at_start servers = record {
  runners = map (start_runner servers) servers;
  mail = record { cells = map start_cell servers; told = [] };
}

-- what the setup says of a server: its sends go by the numbers of all servers
abbrev pub server_setup : List ServerCode → ServerCode → ServerSetup
server_setup servers s = record {
  name = s.name.now;
  world = record { own = s.number; servers = map (λ (x : ServerCode). x.number) servers };
  version = s.version;
  program = s.code.now.program;
}

-- each server's code is of a valid program
abbrev pub HaveSources : List ServerCode → Type 0
HaveSources servers = (place : ℕ) (s : ServerCode) → slice_get servers place ≡ Some s → IsSource s.code.now

-- Servers at the start of their programs stand for the world before the boot.
abbrev pub StartsAreExact : Type 0
StartsAreExact =
    (servers : List ServerCode) (setup : SystemSetup) → setup.servers ≡ map (server_setup servers) servers → HaveSources servers
    → StandsFor setup (machines_at_start servers) (start setup)
