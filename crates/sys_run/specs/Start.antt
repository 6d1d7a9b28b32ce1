-- The system before the boot.
use Rattle.std.specs.Prelude.{ℤ, List, [], map, None}
use Rattle.bm_code.specs.Globals.{initial_process}
use Rattle.cg_program.specs.Compiled.{machine_code}
use Rattle.sys_world.specs.World.{CellValue}
use Rattle.sys_run.specs.declared.runner.Runner.{Runner}
use Rattle.sys_run.specs.declared.system.ServerCode.{ServerCode}

-- a process at the start of its program, where servers have these numbers
abbrev pub runner_at : ServerCode → List ℤ → Runner
runner_at s numbers = record {
  server = record {
    process = initial_process (machine_code s.code.now);
    source = s.code.now;
    world = record { own = s.number; servers = numbers };
  };
  message = None;
}

abbrev pub start_runner : List ServerCode → ServerCode → Runner
start_runner servers s = runner_at s (map (λ (x : ServerCode). x.number) servers)

-- nothing has happened
abbrev pub start_cell : ServerCode → CellValue
start_cell s = record {
  name = s.name.now;
  number = s.number;
  version = s.version;
  trap = None;
  inbox = [];
  arrived = [];
  answered = [];
  sent = [];
  history = [];
}
