-- What each event makes of a world, and what it tells.
use Rattle.std.specs.Prelude.{ℕ, ◌+◌, nat_lt, Bool, true, false, List, [], ◌∷◌, ◌++◌, Option, Some, None, slice_get, if◌then◌else◌}
use Rattle.std.specs.Option.{option_map_or}
use Rattle.lu_base.specs.declared.message.Message.{Message}
use Rattle.lu_base.specs.declared.trap.Trap.{Trap}
use Rattle.lu_base.specs.Sending.{Sent}
use Rattle.src_tree.specs.declared.value.Store.{Store}
use Rattle.src_meaning.specs.Delivery.{Delivered, Ends, Dies, deliver, boot}
use Rattle.lu_lines.specs.Line.{Text}
use Rattle.lu_lines.specs.declared.note.Note.{Note}
use Rattle.lu_lines.specs.declared.note.Note.TheVariants as note
use Rattle.mk_queue.specs.declared.hold.Hold.{Hold}
use Rattle.mk_queue.specs.Held.{next_message}
use Rattle.sched_file.specs.declared.event.Event.{Event}
use Rattle.sched_file.specs.declared.event.Event.TheVariants as event
use Rattle.sys_world.specs.declared.outcome.Outcome.{Outcome}
use Rattle.sys_world.specs.declared.outcome.Outcome.TheVariants as outcome
use Rattle.sys_world.specs.Setup.{ServerSetup, UpdateSetup, SystemSetup}
use Rattle.sys_world.specs.World.{State, Idle, Busy, Dead, Life, Host, CellValue, SystemWorld, change}
use Rattle.sys_world.specs.Mail.{Mail, with_cell_at, put, boot_mail, die_mail, returned_mail, trapped_mail, without, with_commit}
use Rattle.sys_world.specs.Dump.{dump_notes}
use Rattle.sys_world.specs.Turn.{Turn, try_turn, lose_turn, request_turn, work_turn, abort_turn, is_ready, commit_turn}

-- parts of a world changed
abbrev pub with_mail : (Mail → Mail) → SystemWorld → SystemWorld
with_mail f w =
    let mail = f (record { cells = w.cells; told = w.told }) in record w { cells = mail.cells; told = mail.told }

abbrev pub with_cell : (CellValue → CellValue) → ℕ → SystemWorld → SystemWorld
with_cell f i w = with_mail (with_cell_at f i) w

abbrev pub with_state : State → ℕ → SystemWorld → SystemWorld
with_state s i w = record w { hosts = change (λ h. record h { state = s }) i w.hosts }

abbrev pub tell : List Note → SystemWorld → SystemWorld
tell ns w = record w { told = w.told ++ ns }

-- a turn of one server
abbrev pub turn_notes : (Host → Turn) → Option Host → List Note
turn_notes f None = []
turn_notes f (Some h) = (f h).notes

abbrev pub with_turn : (Host → Turn) → ℕ → SystemWorld → SystemWorld
with_turn f i w =
    record w { hosts = change (λ h. (f h).host) i w.hosts; told = w.told ++ turn_notes f (slice_get w.hosts i) }

-- what happens at a server; nothing where there is no such server
abbrev pub on_host : (Host → SystemWorld → SystemWorld) → Option Host → SystemWorld → SystemWorld
on_host f None w = w
on_host f (Some h) w = f h w

abbrev pub at_host : (Host → SystemWorld → SystemWorld) → ℕ → SystemWorld → SystemWorld
at_host f i w = on_host f (slice_get w.hosts i) w

-- the boot of a server
abbrev pub booted : ℕ → Delivered → SystemWorld → SystemWorld
booted i (Ends store sends used) w = with_mail (boot_mail i sends) (with_state (Idle store) i w)
booted i (Dies trap used) w = with_mail (die_mail i trap) (with_state (Dead trap) i w)

abbrev pub boot_by : ℕ → Host → State → Option Life → SystemWorld → SystemWorld
boot_by i h (Idle store) None w = booted i (boot h.program h.world) w
boot_by i h s life w = w

abbrev pub boot_host : ℕ → SystemWorld → SystemWorld
boot_host i w = at_host (λ h w. boot_by i h h.state h.life w) i w

-- the servers boot in the order of the plan
abbrev pub boot_from : ℕ → List ServerSetup → SystemWorld → SystemWorld
boot_from i [] w = w
boot_from i (s ∷ ss) w = boot_from (i + 1) ss (boot_host i w)

-- the end of a delivery; by return a waiting update tries its filter, by a trap it is refused
abbrev pub returned : ℕ → Message → List Sent → SystemWorld → SystemWorld
returned i m sends w = with_turn (try_turn true) i (with_mail (returned_mail i m sends) w)

abbrev pub trapped : ℕ → Message → Trap → SystemWorld → SystemWorld
trapped i m trap w = with_turn (lose_turn trap) i (with_mail (trapped_mail i m trap) w)

abbrev pub finished : ℕ → Message → Delivered → SystemWorld → SystemWorld
finished i m (Ends store sends used) w = returned i m sends (with_state (Idle store) i w)
finished i m (Dies trap used) w = trapped i m trap (with_state (Dead trap) i w)

-- the update holds its server
abbrev pub is_holding : Outcome → Bool
is_holding outcome.Waiting = false
is_holding outcome.Moving = true
is_holding outcome.Ready = true
is_holding outcome.Committed = true
is_holding (outcome.Refused r) = true

abbrev pub is_held : Option Life → Bool
is_held life = option_map_or (λ l. is_holding l.outcome) life false

abbrev pub used_of : Delivered → ℕ
used_of (Ends store sends used) = used
used_of (Dies trap used) = used

-- a delivery that was given so many ticks ends exactly where they reach those that it takes
abbrev pub given_ticks : Bool → Delivered → ℕ → Store → Message → ℕ → SystemWorld → SystemWorld
given_ticks true d i store m given w = with_state (Busy store m given) i w
given_ticks false d i store m given w = finished i m d w

abbrev pub give_to : Delivered → ℕ → Store → Message → ℕ → SystemWorld → SystemWorld
give_to d i store m given w = given_ticks (nat_lt given (used_of d)) d i store m given w

abbrev pub give_by : Bool → Host → ℕ → ℕ → State → SystemWorld → SystemWorld
give_by true h i ticks s w = w
give_by false h i ticks (Busy store m given) w = give_to (deliver h.program h.world store m) i store m (given + ticks) w
give_by false h i ticks (Idle store) w = w
give_by false h i ticks (Dead trap) w = w

abbrev pub give_ticks : ℕ → ℕ → SystemWorld → SystemWorld
give_ticks i ticks w = at_host (λ h w. give_by (is_held h.life) h i ticks h.state w) i w

-- what an active update holds back
abbrev pub hold_of : Option Life → Hold
hold_of None = record { active = false; kinds = [] }
hold_of (Some l) = record { active = true; kinds = l.update.hold }

abbrev pub inbox_of : Option CellValue → List Message
inbox_of c = option_map_or (λ c. c.inbox) c []

-- an idle server takes the message at that place, if there is one
abbrev pub take_message : ℕ → Store → ℕ → Option Message → SystemWorld → SystemWorld
take_message i store place None w = w
take_message i store place (Some m) w = with_state (Busy store m 0) i (with_cell (without place) i w)

abbrev pub take_at : ℕ → Store → Option ℕ → List Message → SystemWorld → SystemWorld
take_at i store None inbox w = w
take_at i store (Some place) inbox w = take_message i store place (slice_get inbox place) w

abbrev pub take_by : Bool → Hold → ℕ → State → List Message → SystemWorld → SystemWorld
take_by true hold i s inbox w = w
take_by false hold i (Idle store) inbox w = take_at i store (next_message hold inbox) inbox w
take_by false hold i (Busy store m given) inbox w = w
take_by false hold i (Dead trap) inbox w = w

-- an idle server that isn't held takes its next message
abbrev pub take_next : ℕ → SystemWorld → SystemWorld
take_next i w =
    at_host (λ h w. take_by (is_held h.life) (hold_of h.life) i h.state (inbox_of (slice_get w.cells i)) w) i w

abbrev pub run_event : ℕ → ℕ → SystemWorld → SystemWorld
run_event i ticks w = give_ticks i ticks (take_next i w)

abbrev pub version_of : Option CellValue → ℕ
version_of c = option_map_or (λ c. c.version) c 0

abbrev pub request : Option ℕ → ℕ → UpdateSetup → SystemWorld → SystemWorld
request k number u w = with_turn (request_turn k number u (version_of (slice_get w.cells u.server))) u.server w

abbrev pub ready_at : ℕ → Option Host → Bool
ready_at number h = option_map_or (is_ready number) h false

abbrev pub commits : ℕ → UpdateSetup → SystemWorld → SystemWorld
commits number u w = with_cell (with_commit number u.to) u.server (with_turn (commit_turn u) u.server w)

abbrev pub commit_ready : ℕ → UpdateSetup → SystemWorld → SystemWorld
commit_ready number u w = if ready_at number (slice_get w.hosts u.server) then commits number u w else w

-- an update that isn't gated commits in the event in which it is ready
abbrev pub commit_ungated : ℕ → UpdateSetup → SystemWorld → SystemWorld
commit_ungated number u w = if u.gated then w else commit_ready number u w

abbrev pub work : Option ℕ → ℕ → ℕ → UpdateSetup → SystemWorld → SystemWorld
work k units number u w = commit_ungated number u (with_turn (work_turn k units number u) u.server w)

abbrev pub commit : ℕ → UpdateSetup → SystemWorld → SystemWorld
commit number u w =
    if ready_at number (slice_get w.hosts u.server) then commits number u w else tell (note.NotReady u.name ∷ []) w

abbrev pub abort : ℕ → UpdateSetup → SystemWorld → SystemWorld
abort number u w = with_turn (abort_turn number u) u.server w

-- an event of an update; nothing where there is no such update or server
abbrev pub on_update : (UpdateSetup → SystemWorld → SystemWorld) → Option UpdateSetup → SystemWorld → SystemWorld
on_update f None w = w
on_update f (Some u) w = at_host (λ h w. f u w) u.server w

abbrev pub at_update : SystemSetup → (UpdateSetup → SystemWorld → SystemWorld) → ℕ → SystemWorld → SystemWorld
at_update setup f number w = on_update f (slice_get setup.updates number) w

abbrev pub name_of : Option CellValue → Text
name_of c = option_map_or (λ c. c.name) c []

abbrev pub dump_event : ℕ → SystemWorld → SystemWorld
dump_event i w = at_host (λ h w. tell (dump_notes (name_of (slice_get w.cells i)) h.program h.state) w) i w

abbrev pub end_note : Outcome → Text → List Note
end_note outcome.Waiting name = note.WaitingAtEnd name ∷ []
end_note outcome.Moving name = note.MovingAtEnd name ∷ []
end_note outcome.Ready name = note.ReadyAtEnd name ∷ []
end_note outcome.Committed name = []
end_note (outcome.Refused r) name = []

abbrev pub end_notes : List Host → List Note
end_notes [] = []
end_notes (h ∷ hs) = option_map_or (λ l. end_note l.outcome l.update.name) h.life [] ++ end_notes hs

abbrev pub finish_event : SystemWorld → SystemWorld
finish_event w = tell (end_notes w.hosts ++ note.End ∷ []) w

-- what happens in an event; `k` is the unit in it in which memory is refused, if there is one
abbrev pub happen : SystemSetup → Option ℕ → Event → SystemWorld → SystemWorld
happen setup k event.Boot w = boot_from 0 setup.servers w
happen setup k (event.Send client server m) w = with_mail (put server (record m { source = client })) w
happen setup k (event.Run server ticks) w = run_event server ticks w
happen setup k (event.Update u) w = at_update setup (request k u) u w
happen setup k (event.Work u units) w = at_update setup (work k units u) u w
happen setup k (event.Commit u) w = at_update setup (commit u) u w
happen setup k (event.Abort u) w = at_update setup (abort u) u w
happen setup k (event.Dump server) w = dump_event server w
happen setup k event.Finish w = finish_event w

-- the next world, with what the event told
abbrev pub world_step : SystemSetup → SystemWorld → Event → Option ℕ → SystemWorld
world_step setup w e k = happen setup k e (record w { told = [] })
