-- What a server is.
use Rattle.std.specs.Prelude.{ℤ, List}
use Rattle.lu_base.specs.declared.world.World.{World}
use Rattle.bm_code.specs.Process.{Process}
use Rattle.cg_program.specs.Compiled.{Source}

-- a process, the program with its filters that it runs, and the numbers that `send` goes by
pub record ServerState : Type 0 where
  pub process : Process
  pub source : Source
  pub world : World

-- a process of a program at the server of that number, where all servers have these
abbrev pub server_of : Source → ℤ → List ℤ → Process → ServerState
server_of s own servers p = record { process = p; source = s; world = record { own = own; servers = servers } }

-- the server with another process
abbrev pub with_process : ServerState → Process → ServerState
with_process s p = record { process = p; source = s.source; world = s.world }
