-- What a transfer of control answers.
use Rattle.std.specs.Prelude.{◌≡◌, ℕ, ◌≤◌, ◌^◌, ◌<◌, List, length, map, drop, Option, Some, slice_get, []}
use Rattle.lu_base.specs.declared.limits.TheConstants.{LOCALS, STACK_HEIGHT}
use Rattle.lu_base.specs.Sending.{Sent}
use Rattle.c_types.specs.declared.parts.Signature.{Signature}
use Rattle.bm_mem.specs.Content.{Content}
use Rattle.bm_objects.specs.declared.row.Row.{Row}
use Rattle.bm_code.specs.declared.code.MachineCode.{MachineCode}
use Rattle.bm_code.specs.declared.code.MachineFunction.{MachineFunction}
use Rattle.bm_code.specs.Process.{Frame, Process}
use Rattle.bm_code.specs.Transfers.{Effect, pop_words, enter}
use Rattle.bm_frame.specs.View.{frame_of}
use Rattle.bm_run.specs.declared.calls.Calls.{Calls}
use Rattle.bm_code.specs.declared.stop.Stop.{Stop}
use Rattle.bm_run.specs.View.{process_in}
use Rattle.bm_run.specs.Came.{Came}

-- what is under way came to what the effect says, whatever the rest of the process is
abbrev pub IsTransferred : (Process → Frame → List Frame → Effect) → Calls → ℕ → Option Stop → Calls → ℕ → Type 0
IsTransferred F c left r d left' =
    (m : Content) (rows : List Row) (next : ℕ) (outbox : List Sent) → Came (F (process_in m rows next outbox c) (frame_of c.frame) (map frame_of c.callers)) (process_in m rows next outbox c) left r left' (process_in m rows next outbox d)

-- the function g is entered with so many arguments, and `below` more words are dropped
abbrev pub IsEntering : MachineFunction → ℕ → MachineFunction → Signature → ℕ → ℕ → Calls → ℕ → Option Stop → Calls → ℕ → Type 0
IsEntering m g d s count below c left r c' left' =
    (args rest : List ℕ) → pop_words count c.frame.stack [] ≡ Some (args, rest) → IsTransferred (λ p f callers. enter m p f callers g d s (args, drop below rest)) c left r c' left'

-- a function that the machine has room for
pub record IsFunction (code : MachineCode) (d : MachineFunction) : Type 0 where
  pub height : d.height ≤ STACK_HEIGHT
  pub locals : d.locals ≤ LOCALS
  pub signature : Signature
  pub has : slice_get code.types.signatures d.signature ≡ Some signature
  pub arguments : length signature.params ≤ LOCALS

pub record IsSized (code : MachineCode) : Type 0 where
  pub each : (k : ℕ) (d : MachineFunction) → slice_get code.functions k ≡ Some d → IsFunction code d
  pub count : length code.functions < 2 ^ 32
