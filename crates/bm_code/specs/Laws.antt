-- Laws of runs.
use Rattle.std.specs.Prelude.{◌≡◌, ℕ, suc, ◌+◌, ◌<◌, Some}
use Rattle.lu_base.specs.declared.trap.Trap.{Trap}
use Rattle.lu_base.specs.declared.trap.Trap.TheVariants.{Budget}
use Rattle.bm_code.specs.declared.code.MachineCode.{MachineCode}
use Rattle.lu_base.specs.declared.world.World.{World}
use Rattle.bm_code.specs.Process.{Process}
use Rattle.bm_code.specs.Transfers.{Next, Spends, Returns, Traps, idle}
use Rattle.bm_code.specs.Step.{step_instruction}
use Rattle.bm_code.specs.Steps.{Steps}
use Rattle.bm_code.specs.Run.{Final, final, Returned, Trapped, Paused, RunsTo}

-- a run of j ticks that pauses, and a further run of k, are the run of j + k
abbrev pub Compose : MachineCode → World → Type 0
Compose code world =
    (j k : ℕ) (p q : Process) (r : Final) → RunsTo code world j p (final Paused q) → RunsTo code world k q r → RunsTo code world (j + k) p r

-- a run has one end
abbrev pub EndInOneWay : MachineCode → World → Type 0
EndInOneWay code world = (j : ℕ) (p : Process) (r s : Final) → RunsTo code world j p r → RunsTo code world j p s → r ≡ s

-- each run ends, whatever the code and the process
abbrev pub AlwaysEnd : MachineCode → World → Type 0
AlwaysEnd code world = (ticks : ℕ) (p : Process) → (r : Final) × RunsTo code world ticks p r

-- A run by what its first instruction does: the rest follows, after a tick or without one; the call ends; it has no tick
-- to spare; or the run has none, and pauses.
pub record BeginWith (code : MachineCode) (world : World) : Type 0 where
  pub next : (ticks : ℕ) (p q : Process) (r : Final) → step_instruction code world p ≡ Next q → RunsTo code world ticks q r → RunsTo code world ticks p r
  pub tick : (ticks spare : ℕ) (p q : Process) (r : Final) → step_instruction code world p ≡ Spends q → p.spare ≡ suc spare → RunsTo code world ticks (record q { spare = spare }) r → RunsTo code world (suc ticks) p r
  pub returns : (ticks v : ℕ) (p q : Process) → step_instruction code world p ≡ Returns v q → RunsTo code world ticks p (final (Returned v) q)
  pub traps : (ticks : ℕ) (t : Trap) (p q : Process) → step_instruction code world p ≡ Traps t q → RunsTo code world ticks p (final (Trapped t) q)
  pub budget : (ticks : ℕ) (p q : Process) → step_instruction code world p ≡ Spends q → p.spare ≡ 0 → RunsTo code world ticks p (final (Trapped Budget) (idle (Some Budget) p))
  pub pause : (p q : Process) → step_instruction code world p ≡ Spends q → 0 < p.spare → RunsTo code world 0 p (final Paused p)

-- one instruction that goes on, after a tick or without one
pub record StepOnce (code : MachineCode) (world : World) : Type 0 where
  pub next : (p q : Process) → step_instruction code world p ≡ Next q → Steps code world 1 0 p q
  pub tick : (spare : ℕ) (p q : Process) → step_instruction code world p ≡ Spends q → p.spare ≡ suc spare → Steps code world 1 1 p (record q { spare = spare })

-- further instructions from where some led
abbrev pub StepsCompose : MachineCode → World → Type 0
StepsCompose code world =
    (n m a b : ℕ) (p q r : Process) → Steps code world n a p q → Steps code world m b q r → Steps code world (n + m) (a + b) p r

-- a run from where instructions led, and these before it
abbrev pub StepsProlong : MachineCode → World → Type 0
StepsProlong code world =
    (n spent ticks : ℕ) (p q : Process) (r : Final) → Steps code world n spent p q → RunsTo code world ticks q r → RunsTo code world (spent + ticks) p r

-- the process that a pause leaves: the run's instructions led to it by all its ticks, and the next needs one, which the
-- call has
pub record IsPause (code : MachineCode) (world : World) (ticks : ℕ) (p q : Process) : Type 0 where
  pub count : ℕ
  pub steps : Steps code world count ticks p q
  pub next : Process
  pub needs : step_instruction code world q ≡ Spends next
  pub spare : 0 < q.spare

abbrev pub PauseAfterSteps : MachineCode → World → Type 0
PauseAfterSteps code world =
    (ticks : ℕ) (p q : Process) → RunsTo code world ticks p (final Paused q) → IsPause code world ticks p q
