-- One step of a run.
use Rattle.std.specs.Prelude.{ℕ, Option}
use Rattle.bm_code.specs.declared.code.MachineCode.{MachineCode}
use Rattle.lu_base.specs.declared.world.World.{World}
use Rattle.bm_code.specs.Process.{Process}
use Rattle.bm_code.specs.Step.{step_instruction}
use Rattle.bm_code.specs.declared.stop.Stop.{Stop}
use Rattle.bm_run.specs.Came.{Came}

-- the next instruction of `p`, with `left` ticks, came to `q` with `left'`, or stopped there
abbrev pub IsStep : MachineCode → World → ℕ → Process → Option Stop → ℕ → Process → Type 0
IsStep code world left p r left' q = Came (step_instruction code world p) p left r left' q
