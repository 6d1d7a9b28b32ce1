-- What a machine is.
use Rattle.std.specs.Prelude.{pos, []}
use Rattle.std.specs.Coded.{Coded, coded_ℕ, coded_list}
use Rattle.std.specs.FinMap as map
use Rattle.lu_base.specs.declared.world.World.{World}
use Rattle.bm_mem.specs.Content.{Content}
use Rattle.bm_code.specs.declared.code.MachineCode.{MachineCode}
use Rattle.bm_code.specs.Process.{Process}

-- a process, the code that it runs, and the numbers that `send` goes by
pub record MachineState : Type 0 where
  pub process : Process
  pub code : MachineCode
  pub world : World

-- before any numbers are told
abbrev pub no_world : World
no_world = record { own = pos 0; servers = [] }

-- the machine with another process
abbrev pub with_process : MachineState → Process → MachineState
with_process s p = record { process = p; code = s.code; world = s.world }

-- bytes by address are told apart as the list of their entries
abbrev pub content_code : Coded Content
content_code = map.code coded_ℕ (coded_list coded_ℕ)
