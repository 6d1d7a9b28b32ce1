-- The message that a process would send.
use Rattle.std.specs.Prelude.{◌≡◌, ℕ, nat_lt, if◌then◌else◌, List, length, Option, None, slice_get}
use Rattle.std.specs.Option.{option_map}
use Rattle.lu_spec.specs.Then.{then_option}
use Rattle.lu_base.specs.declared.limits.TheConstants.{MESSAGE_BYTES}
use Rattle.lu_base.specs.declared.message.Message.{Message}
use Rattle.lu_base.specs.Sending.{Sent}
use Rattle.bm_mem.specs.Content.{Content}
use Rattle.bm_objects.specs.declared.row.Row.{Row}
use Rattle.bm_code.specs.declared.code.MachineCode.{MachineCode}
use Rattle.bm_code.specs.Process.{Activity}
use Rattle.bm_code.specs.Services.{message_of, message_bytes}
use Rattle.bm_serve.specs.Held.{held, process_of}

-- the row of the second global, where it has the bytes of a message at least
abbrev pub outgoing_row : MachineCode → List Row → Option Row
outgoing_row code rows = then_option (slice_get code.globals 1) (λ g. if nat_lt (length g.bytes) MESSAGE_BYTES then None else slice_get rows 1)

-- the message that a process with these bytes and objects would send, whatever the rest of it is; none where its code
-- has none
abbrev pub IsOutgoing : MachineCode → Content → List Row → Option Message → Type 0
IsOutgoing code m rows message =
    (next : ℕ) (outbox : List Sent) (activity : Activity) (spare : ℕ) → message ≡ option_map message_of (message_bytes code (process_of (held m rows next outbox) activity spare))
