-- What a service answers.
use Rattle.std.specs.Prelude.{◌≡◌, ℕ, ◌<◌, List, length, Result, Ok, Err}
use Rattle.bm_code.specs.declared.code.MachineCode.{MachineCode}
use Rattle.bm_code.specs.declared.operation.Service.{Service}
use Rattle.lu_base.specs.declared.world.World.{World}
use Rattle.bm_code.specs.Process.{Frame, Activity, Process}
use Rattle.bm_code.specs.Transfers.{Effect, Next, trap, running}
use Rattle.bm_code.specs.Services.{served}
use Rattle.bm_serve.specs.declared.service.Halt.{Halt}
use Rattle.bm_serve.specs.declared.service.Halt.TheVariants.{Trapped, Memory}
use Rattle.bm_serve.specs.Held.{Held, process_of}

-- it would go on with one object more
pub record WouldAdd (e : Effect) (p : Process) : Type 0 where
  pub process : Process
  pub is : e ≡ Next process
  pub more : length p.rows < length process.rows

-- it goes on with this process and frame, or it traps, or memory ran out before an object was added
abbrev pub Serves : {A : Type 0} → Result A Halt → Effect → Process → Process → Frame → List Frame → Type 0
Serves (Ok _) e p q g callers = e ≡ Next (running q g callers)
Serves (Err (Trapped t)) e p q g callers = e ≡ trap t p
Serves (Err Memory) e p q g callers = WouldAdd e p

-- What a service does to a process that has `h` and runs in the frame `f`, against an answer that left `h'` and `g`;
-- whatever the activity, the ticks and the callers are.
abbrev pub IsServed : {A : Type 0} → Service → MachineCode → World → Held → Frame → Result A Halt → Held → Frame → Type 0
IsServed service code world h f r h' g =
    (activity : Activity) (spare : ℕ) (callers : List Frame) → Serves r (served service code world (process_of h activity spare) f callers) (process_of h activity spare) (process_of h' activity spare) g callers
