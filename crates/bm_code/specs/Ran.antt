-- What a run answers.
use Rattle.std.specs.Prelude.{ℕ, ◌<◌, ◌≤◌, length}
use Rattle.lu_base.specs.declared.world.World.{World}
use Rattle.bm_code.specs.declared.code.MachineCode.{MachineCode}
use Rattle.bm_code.specs.declared.stop.Stop.{Stop}
use Rattle.bm_code.specs.declared.stop.Stop.TheVariants as S
use Rattle.bm_code.specs.Process.{Process}
use Rattle.bm_code.specs.Transfers.{Effect, Next}
use Rattle.bm_code.specs.Step.{step_instruction}
use Rattle.bm_code.specs.Steps.{Steps}
use Rattle.bm_code.specs.Run.{Returned, Trapped, Paused, final, RunsTo}

-- the effect adds an object, as only that of an allocation does
abbrev pub AddsObject : Process → Effect → Type 0
AddsObject p (Next x) = length p.rows < length x.rows
AddsObject p _ = ⊥

-- A run of so many ticks from p met an allocation that was refused: q is exactly the process before it.
pub record IsRefused (code : MachineCode) (world : World) (ticks : ℕ) (p q : Process) : Type 0 where
  pub count : ℕ
  pub spent : ℕ
  pub within : spent ≤ ticks
  pub steps : Steps code world count spent p q
  pub adds : AddsObject q (step_instruction code world q)

-- What a run of so many ticks from `p` answers, and the process `q` that it leaves. After a pause, and where memory ran
-- out, a further run goes on from there.
abbrev pub IsRun : MachineCode → World → ℕ → Process → Stop → Process → Type 0
IsRun code world ticks p (S.Returned v) q = RunsTo code world ticks p (final (Returned v) q)
IsRun code world ticks p (S.Trapped t) q = RunsTo code world ticks p (final (Trapped t) q)
IsRun code world ticks p S.Paused q = RunsTo code world ticks p (final Paused q)
IsRun code world ticks p S.Memory q = IsRefused code world ticks p q
