-- Runs, and their ticks.
use Rattle.std.specs.Prelude.{◌≡◌, ℕ, zero, suc, Option, Some, None}
use Rattle.lu_base.specs.declared.trap.Trap.{Trap}
use Rattle.lu_base.specs.declared.trap.Trap.TheVariants.{Budget}
use Rattle.bm_code.specs.declared.code.MachineCode.{MachineCode}
use Rattle.lu_base.specs.declared.world.World.{World}
use Rattle.bm_code.specs.Process.{Process}
use Rattle.bm_code.specs.Transfers.{Effect, Next, Spends, Returns, Traps, idle}
use Rattle.bm_code.specs.Step.{step_instruction}

pub data Ending : Type 0 where
  Returned : (value : ℕ) → Ending
  Trapped : (trap : Trap) → Ending
  Paused : Ending

-- how a run ended, and the process that it left
pub record Final : Type 0 where
  pub ending : Ending
  pub process : Process

abbrev pub final : Ending → Process → Final
final e p = record { ending = e; process = p }

abbrev pub Going : Type 0
Going = ℕ → Process → Option Final

-- A tick, of the call and of the run. A call that has used all of its own traps; else a run that has spent all of its
-- own pauses, and the process is as before the instruction.
abbrev pub spend : ℕ → ℕ → Going → Process → Process → Option Final
spend zero left go p q = Some (final (Trapped Budget) (idle (Some Budget) p))
spend (suc spare) zero go p q = Some (final Paused p)
spend (suc spare) (suc left) go p q = go left (record q { spare = spare })

abbrev pub onward : Effect → Going → ℕ → Process → Option Final
onward (Next q) go left p = go left q
onward (Spends q) go left p = spend p.spare left go p q
onward (Returns v q) go left p = Some (final (Returned v) q)
onward (Traps t q) go left p = Some (final (Trapped t) q)

-- at most so many instructions, with so many ticks left
abbrev pub run_machine : MachineCode → World → ℕ → Going
run_machine code world zero left p = None
run_machine code world (suc n) left p =
    onward (step_instruction code world p) (run_machine code world n) left p

-- a run of so many ticks ends so
pub record RunsTo (code : MachineCode) (world : World) (ticks : ℕ) (p : Process) (r : Final) : Type 0 where
  pub steps : ℕ
  pub is : run_machine code world steps ticks p ≡ Some r
