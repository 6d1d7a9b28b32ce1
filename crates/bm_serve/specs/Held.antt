-- What services work on beside the frame, and the process around it.
use Rattle.std.specs.Prelude.{◌≡◌, ℕ, ◌<◌, List, Some, length, slice_get}
use Rattle.lu_base.specs.Sending.{Sent}
use Rattle.bm_mem.specs.Content.{Content}
use Rattle.bm_objects.specs.declared.row.Row.{Row}
use Rattle.bm_code.specs.declared.code.MachineCode.{MachineCode}
use Rattle.bm_code.specs.declared.code.MachineSite.{MachineSite}
use Rattle.bm_code.specs.Process.{Activity, Process}

-- the bytes of live objects, all objects in order, the address of the next one, and what was sent and to whom
pub record Held : Type 0 where
  pub content : Content
  pub rows : List Row
  pub next : ℕ
  pub outbox : List Sent

abbrev pub held : Content → List Row → ℕ → List Sent → Held
held m rows next outbox = record { content = m; rows = rows; next = next; outbox = outbox }

-- the process that has it, with what runs and how many ticks the call may still use
abbrev pub process_of : Held → Activity → ℕ → Process
process_of h activity spare = record {
  content = h.content;
  rows = h.rows;
  next = h.next;
  outbox = h.outbox;
  activity = activity;
  spare = spare;
}

-- each allocation in the program's text is of a type of the program
abbrev pub HasKnownSites : MachineCode → Type 0
HasKnownSites code = (k : ℕ) (s : MachineSite) → slice_get code.sites k ≡ Some s → s.elem < length code.types.types
