-- The life of an update's attempt: tries of its filter, and its units of work on the store of the held server.
use Rattle.std.specs.Prelude.{ℕ, zero, suc, ◌+◌, ◌-◌, ◌*◌, nat_eq, nat_le, nat_lt, Bool, true, false, ◌&&◌, if◌then◌else◌, List, [], ◌∷◌, ◌++◌, length, take, Option, Some, None, Ok, Err}
use Rattle.lu_spec.specs.Then.{then_do}
use Rattle.src_tree.specs.declared.value.Store.{Store}
use Rattle.src_meaning.specs.Objects.{Gives}
use Rattle.src_meaning.specs.Operators.{is_true}
use Rattle.src_meaning.specs.Expression.{value_of}
use Rattle.src_meaning.specs.Initial.{initial_store}
use Rattle.lu_lines.specs.Line.{Text}
use Rattle.lu_lines.specs.declared.note.Note.{Note}
use Rattle.lu_lines.specs.declared.note.Note.TheVariants as note
use Rattle.lu_lines.specs.declared.reason.Reason.{Reason}
use Rattle.lu_lines.specs.declared.reason.Reason.TheVariants as reason
use Rattle.lu_image.specs.declared.refusal.Why.TheVariants as W
use Rattle.lu_image.specs.declared.refusal.Kept.TheVariants as K
use Rattle.lu_image_store.specs.Pointers.{Context}
use Rattle.lu_image_store.specs.Needed.{needed_objects}
use Rattle.lu_image_store.specs.Stores.{Makes, context_of, heap_of, heap_size, first_over, move_objects}
use Rattle.lu_image_store.specs.Handled.{refuses, traps, Handles, PlaceCall, calls_of, handle_all, or_refusal, handled_image, handler_units}
use Rattle.sys_world.specs.declared.outcome.Outcome.{Outcome}
use Rattle.sys_world.specs.declared.outcome.Outcome.TheVariants as outcome
use Rattle.sys_world.specs.Setup.{UpdateSetup, versions_of}
use Rattle.sys_world.specs.Naming.{reason_of}

-- the filter in the store of the idle server: whether it is other than zero, or its trap
abbrev pub filter_holds : UpdateSetup → Store → Gives Bool
filter_holds u store =
    then_do (value_of (record { types = u.old_program.types; store = store; locals = [] }) u.filter.ty u.filter.kind) is_true

-- what a try of the filter leaves, at the end of the delivery of that number or, where none has ended, at the request
abbrev pub tried : Gives Bool → Bool → ℕ → ℕ → Outcome
tried (Err t) ended tries deliveries = outcome.Refused (reason.FilterTrap t)
tried (Ok true) ended tries deliveries = outcome.Moving
tried (Ok false) ended tries deliveries =
    if ended && nat_le tries deliveries then outcome.Refused (reason.NotQuiet deliveries) else outcome.Waiting

-- the numbers of the needed objects, in order
abbrev pub needed : UpdateSetup → Store → List ℕ
needed u store = needed_objects (versions_of u) store

-- as many units walk, and as many move
abbrev pub object_units : UpdateSetup → Store → ℕ
object_units u store = length (needed u store)

-- a unit for each handled place, and one for the last call
abbrev pub call_units : UpdateSetup → Store → ℕ
call_units u store = handler_units (versions_of u) store (needed u store)

-- the units that may take memory
abbrev pub work_units : UpdateSetup → Store → ℕ
work_units u store = 2 * object_units u store + call_units u store

-- the unit behind which the attempt is ready: where it isn't gated, one more, which commits
abbrev pub last_unit : UpdateSetup → Store → ℕ
last_unit u store = if u.gated then work_units u store else work_units u store + 1

abbrev pub move_context : UpdateSetup → Store → Context
move_context u store = context_of (versions_of u) store (heap_of store (needed u store))

-- the new store once so many needed objects have moved
abbrev pub moved_store : UpdateSetup → Store → ℕ → Makes
moved_store u store n =
    move_objects (move_context u store) (take n (needed u store)) (initial_store u.new_program)

-- the first so many calls; the last call comes behind those of all handled places
abbrev pub first_calls : UpdateSetup → List PlaceCall → ℕ → Store → Handles
first_calls u calls n next =
    handle_all u.new_program u.world (if nat_lt (length calls) n then u.pairing.after else None) 1 (take n calls) next

-- the new store after so many calls
abbrev pub handled_store : UpdateSetup → Store → ℕ → Handles
handled_store u store n =
    then_do (or_refusal (moved_store u store (object_units u store))) (first_calls u (calls_of (move_context u store) (needed u store)) n)

abbrev pub stop_reason : UpdateSetup → Store → Handles → Option Reason
stop_reason u store (Ok next) = None
stop_reason u store (Err (refuses r)) = Some (reason_of u.old_program store r)
stop_reason u store (Err (traps number t)) = Some (reason.HandlerTrap number t)

abbrev pub limit_reason : UpdateSetup → Store → Option ℕ → Option Reason
limit_reason u store None = None
limit_reason u store (Some k) =
    Some (reason_of u.old_program store (record { why = W.HeapLimit; object = k; path = []; kept = K.Nothing }))

-- the object at which the new heap passes its bound
abbrev pub over_limit : UpdateSetup → Store → Option ℕ
over_limit u store = first_over (heap_size (versions_of u) store) 0 (needed u store)

-- Why a unit is refused that has its memory, where those before it are done. Units walk the needed objects, move them, call,
-- and commit. The last that walks finds the heap too small; any other refusal falls in the unit of its object or its call.
abbrev pub unit_reason : UpdateSetup → Store → ℕ → Option Reason
unit_reason u store unit =
    if nat_lt unit (object_units u store) then None
    else if nat_eq unit (object_units u store) then limit_reason u store (over_limit u store)
    else if nat_le unit (2 * object_units u store) then
    stop_reason u store (or_refusal (moved_store u store (unit - object_units u store)))
    else if nat_le unit (work_units u store) then
    stop_reason u store (handled_store u store (unit - 2 * object_units u store))
    else None

-- how a unit ends
pub data UnitEnd : Type 0 where
  Goes : UnitEnd
  Completes : UnitEnd
  Refuses : (reason : Reason) → UnitEnd

-- memory is refused in that unit
abbrev pub is_short : Option ℕ → ℕ → Bool
is_short None unit = false
is_short (Some k) unit = nat_eq k unit

abbrev pub unit_ends_by : Option Reason → Bool → UnitEnd
unit_ends_by (Some r) is_last = Refuses r
unit_ends_by None true = Completes
unit_ends_by None false = Goes

abbrev pub unit_ends : UpdateSetup → Store → ℕ → UnitEnd
unit_ends u store unit = unit_ends_by (unit_reason u store unit) (nat_le (last_unit u store) unit)

-- the unit that commits takes no memory
abbrev pub unit_end : UpdateSetup → Store → Option ℕ → ℕ → UnitEnd
unit_end u store k unit =
    if is_short k unit && nat_le unit (work_units u store) then Refuses (reason.NoMemory unit) else unit_ends u store unit

-- how far an attempt is, and the units that it has done
pub record Progress : Type 0 where
  pub outcome : Outcome
  pub done : ℕ

abbrev pub after_unit : UnitEnd → Progress → ℕ → Progress
after_unit Goes rest done = rest
after_unit Completes rest done = record { outcome = outcome.Ready; done = done + 1 }
after_unit (Refuses r) rest done = record { outcome = outcome.Refused r; done = done }

-- so many units of an attempt that has done some; `k` is the unit in which memory is refused, if there is one
abbrev pub work_from : UpdateSetup → Store → Option ℕ → ℕ → ℕ → Progress
work_from u store k zero done = record { outcome = outcome.Moving; done = done }
work_from u store k (suc units) done =
    after_unit (unit_end u store k (done + 1)) (work_from u store k units (done + 1)) done

-- a count passes a number
abbrev pub passes : ℕ → ℕ → ℕ → Bool
passes mark before now = nat_lt before mark && nat_le mark now

abbrev pub note_if : Bool → Note → List Note
note_if b n = if b then n ∷ [] else []

abbrev pub end_notes : Text → Bool → Outcome → List Note
end_notes name gated outcome.Ready = note_if gated (note.Ready name)
end_notes name gated (outcome.Refused r) = note.Refused name r ∷ []
end_notes name gated outcome.Waiting = []
end_notes name gated outcome.Moving = []
end_notes name gated outcome.Committed = []

-- what work tells, from the units done before it to those done after it
abbrev pub work_notes : UpdateSetup → Store → ℕ → Progress → List Note
work_notes u store before now =
    note_if (passes (object_units u store) before now.done) (note.Walked u.name (object_units u store))
    ++ (note_if (passes (2 * object_units u store) before now.done) (note.Moved u.name (object_units u store))
    ++ (note_if (nat_lt 0 (call_units u store) && passes (work_units u store) before now.done) (note.Handled u.name (call_units u store))
    ++ end_notes u.name u.gated now.outcome))

abbrev pub store_or : Store → Handles → Store
store_or old (Ok next) = next
store_or old (Err stop) = old

-- the store of the new version; an attempt that is ready has one
abbrev pub new_store : UpdateSetup → Store → Store
new_store u store = store_or store (handled_image (versions_of u) u.new_program u.world store)
