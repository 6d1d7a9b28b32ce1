-- The instructions that concern a frame and memory alone.
use Rattle.std.specs.Prelude.{◌≡◌, ℕ, List, Result, Ok, Err}
use Rattle.lu_base.specs.Sending.{Sent}
use Rattle.lu_base.specs.declared.trap.Trap.{Trap}
use Rattle.bm_mem.specs.Content.{Content}
use Rattle.bm_objects.specs.declared.row.Row.{Row}
use Rattle.bm_code.specs.declared.code.MachineCode.{MachineCode}
use Rattle.bm_code.specs.declared.code.MachineFunction.{MachineFunction}
use Rattle.lu_base.specs.declared.world.World.{World}
use Rattle.bm_code.specs.declared.operation.Operation.{Operation}
use Rattle.bm_code.specs.declared.operation.Operation.TheVariants.{Transfers, Serves}
use Rattle.bm_code.specs.Process.{Frame, Activity, Process}
use Rattle.bm_code.specs.Transfers.{Effect, Next, trap, running}
use Rattle.bm_code.specs.Step.{act}

abbrev pub IsPlain : Operation → Type 0
IsPlain (Transfers o) = ⊥
IsPlain (Serves o) = ⊥
IsPlain _ = Unit {0}

-- what is left of a process: all but its bytes
pub record Rest : Type 0 where
  pub rows : List Row
  pub next : ℕ
  pub outbox : List Sent
  pub activity : Activity
  pub spare : ℕ

abbrev pub process_of : Content → Rest → Process
process_of m r = record {
  content = m;
  rows = r.rows;
  next = r.next;
  outbox = r.outbox;
  activity = r.activity;
  spare = r.spare;
}

-- it goes on with this frame, or it traps
abbrev pub Acts : {A : Type 0} → Result A Trap → Effect → Process → Process → Frame → List Frame → Type 0
Acts (Ok _) e p q f callers = e ≡ Next (running q f callers)
Acts (Err t) e p q f callers = e ≡ trap t p

-- what an operation does, whatever the world and the callers are
abbrev pub HasActed : {A : Type 0} → Operation → MachineCode → MachineFunction → Content → List Row → Frame → Result A Trap → Content → Frame → Type 0
HasActed o code m content rows f r content' g =
    (world : World) (next : ℕ) (outbox : List Sent) (activity : Activity) (spare : ℕ) (callers : List Frame) → Acts r (act o code world m (process_of content (record { rows = rows; next = next; outbox = outbox; activity = activity; spare = spare })) f callers) (process_of content (record { rows = rows; next = next; outbox = outbox; activity = activity; spare = spare })) (process_of content' (record { rows = rows; next = next; outbox = outbox; activity = activity; spare = spare })) g callers
