-- Allocation, messages and panics.
use Rattle.std.specs.Prelude.{ℕ, zero, suc, ◌+◌, ◌*◌, ◌%◌, ◌^◌, Bool, true, false, ◌&&◌, nat_eq, nat_lt, if◌then◌else◌, ℤ, List, [], ◌∷◌, ◌++◌, length, take, drop, replicate, Option, Some, None, is_some, find, slice_get}
use Rattle.std.specs.Option.{option_map_or}
use Rattle.std.specs.Int.{w32, cast_signed}
use Rattle.std.specs.FinMap as map
use Rattle.lu_spec.specs.Then.{then_option}
use Rattle.lu_base.specs.declared.limits.TheConstants.{MESSAGE_BYTES}
use Rattle.lu_base.specs.declared.message.Message.{Message}
use Rattle.lu_base.specs.declared.trap.Trap.TheVariants.{BadCode, BadFree, Panic as Panics}
use Rattle.lu_base.specs.declared.world.World.{World}
use Rattle.lu_base.specs.Addresses.{address_after, heap_part, has_room}
use Rattle.lu_base.specs.Sending.{Sent, sent}
use Rattle.c_types.specs.Layout.{size_of}
use Rattle.bm_objects.specs.declared.row.Row.{Row}
use Rattle.bm_objects.specs.Table.{reaches, killed}
use Rattle.bm_alu.specs.Words.{signed, of_signed}
use Rattle.bm_code.specs.declared.code.MachineCode.{MachineCode}
use Rattle.bm_code.specs.declared.operation.Service.{Service}
use Rattle.bm_code.specs.declared.operation.Service.TheVariants.{Allocate, Free, Send, Panic}
use Rattle.bm_code.specs.Process.{Frame, Process}
use Rattle.bm_code.specs.Frames.{some_or, on_top, advanced}
use Rattle.bm_code.specs.Access.{read_at, number_of}
use Rattle.bm_code.specs.Transfers.{Effect, Next, trap, running}

-- a live object of the heap
abbrev pub is_live_heap : Row → Bool
is_live_heap r = r.live && is_some r.site

-- what an object adds to the bytes of the live heap
abbrev pub heap_part_of : Row → ℕ
heap_part_of r = heap_part (is_live_heap r) r.size

-- how many bytes the live objects of the heap have
abbrev pub heap_bytes : List Row → ℕ
heap_bytes [] = 0
heap_bytes (r ∷ rows) = heap_part_of r + heap_bytes rows

-- so many new elements of a site's type, at the next address
abbrev pub new_row : MachineCode → ℕ → ℕ → ℕ → ℕ → Row
new_row code next site elem count =
    record { addr = next; elem = elem; count = count; size = count * size_of code.types elem; site = Some site; live = true }

-- the count is at least 1, and the live heap and the addresses have room for it
abbrev pub can_allocate : List Row → Row → Bool
can_allocate rows r = nat_lt 0 r.count && has_room (heap_bytes rows) r.addr r.size

abbrev pub with_object : Process → Row → Process
with_object p r = record p {
  content = map.insert p.content r.addr (replicate r.size 0);
  rows = p.rows ++ r ∷ [];
  next = address_after r.addr r.size;
}

-- null where it can't be
abbrev pub allocate : Process → Frame → List Frame → List ℕ → Row → Effect
allocate p f callers rest r =
    if can_allocate p.rows r then Next (running (with_object p r) (advanced f (r.addr ∷ rest)) callers) else Next (running p (advanced f (0 ∷ rest)) callers)

-- a live object of the heap that begins at the address
abbrev pub is_heap_start : ℕ → Row → Bool
is_heap_start a r = nat_eq r.addr a && is_live_heap r

-- whether one begins there
abbrev pub is_heap_object : List Row → ℕ → Bool
is_heap_object rows a = option_map_or (is_heap_start a) (find (reaches a) rows) false

abbrev pub without_object : Process → ℕ → Process
without_object p a = record p { content = map.remove p.content a; rows = killed p.rows a }

abbrev pub free : Process → Frame → List Frame → ℕ → List ℕ → Effect
free p f callers zero rest = Next (running p (advanced f rest) callers)
free p f callers (suc a) rest =
    if is_heap_object p.rows (suc a) then Next (running (without_object p (suc a)) (advanced f rest) callers) else trap BadFree p

-- an int of 4 bytes
abbrev pub int_of : List ℕ → ℤ
int_of bytes = cast_signed w32 (number_of (take 4 bytes))

-- so many ints
abbrev pub ints_of : ℕ → List ℕ → List ℤ
ints_of zero bytes = []
ints_of (suc n) bytes = int_of bytes ∷ ints_of n (drop 4 bytes)

-- The message of these bytes: its source, which the sender's number replaces, its type, and six arguments.
abbrev pub message_of : List ℕ → Message
message_of bytes = record { source = int_of bytes; kind = int_of (drop 4 bytes); arg = ints_of 6 (drop 8 bytes) }

-- the bytes of the outgoing message, which is the second global
abbrev pub message_bytes : MachineCode → Process → Option (List ℕ)
message_bytes code p =
    then_option (slice_get code.globals 1) (λ g. if nat_lt (length g.bytes) MESSAGE_BYTES then None else then_option (slice_get p.rows 1) (λ r. read_at p.content p.rows r.addr MESSAGE_BYTES))

-- the program gets the answer as a word, and the outbox is the sends after it
abbrev pub answered : Process → Frame → List Frame → List ℕ → ℤ × List Sent → Effect
answered p f callers rest answer =
    Next (running (record p { outbox = answer.1 }) (advanced f (of_signed answer.0 ∷ rest)) callers)

abbrev pub send : World → Process → Frame → List Frame → List ℕ → ℤ → List ℕ → Effect
send world p f callers rest to bytes = answered p f callers rest (sent world p.outbox to (message_of bytes))

abbrev pub served : Service → MachineCode → World → Process → Frame → List Frame → Effect
served (Allocate site) code world p f callers =
    some_or (slice_get code.sites site) (trap BadCode p) (λ s. on_top f.stack (trap BadCode p) (λ n rest. allocate p f callers rest (new_row code p.next site s.elem n)))
served Free code world p f callers = on_top f.stack (trap BadCode p) (free p f callers)
served Send code world p f callers =
    on_top f.stack (trap BadCode p) (λ d rest. some_or (message_bytes code p) (trap BadCode p) (send world p f callers rest (signed d)))
served Panic code world p f callers =
    on_top f.stack (trap BadCode p) (λ n rest. trap (Panics (cast_signed w32 (n % 2 ^ 32))) p)
