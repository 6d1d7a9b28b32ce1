-- What each event makes of the processes, of the cells and of what was told.
use Rattle.std.specs.Prelude.{◌≡◌, ◌<◌, ℕ, zero, suc, Bool, true, false, List, [], length, Option, Some, None, slice_get, slice_set, if◌then◌else◌, ◌∷◌, ◌++◌}
use Rattle.lu_base.specs.declared.limits.TheConstants.{CALL_TICKS}
use Rattle.lu_base.specs.declared.message.Message.{Message}
use Rattle.lu_base.specs.declared.trap.Trap.{Trap}
use Rattle.lu_lines.specs.Line.{Text}
use Rattle.lu_lines.specs.declared.note.Note.{Note}
use Rattle.lu_lines.specs.declared.note.Note.TheVariants as note
use Rattle.mk_queue.specs.declared.hold.Hold.{Hold}
use Rattle.mk_queue.specs.Held.{next_message}
use Rattle.sched_file.specs.declared.event.Event.{Event}
use Rattle.sched_file.specs.declared.event.Event.TheVariants as event
use Rattle.bm_code.specs.declared.stop.Stop.{Stop}
use Rattle.cg_server.specs.Dump.{dump_notes}
use Rattle.cg_server.specs.State.{ServerState}
use Rattle.sys_world.specs.World.{CellValue}
use Rattle.sys_world.specs.Mail.{Mail, put, tells, with_cell_at, without}
use Rattle.sys_run.specs.declared.runner.Runner.{Runner}
use Rattle.sys_run.specs.Runs.{Machines, runs, in_hand, is_idle, runner_in_delivery, IsRunBy, Lasts, server_in_init, runner_after, delivery_mail, init_mail}

-- an event of no update, whose server is one of so many
abbrev pub IsWithin : ℕ → Event → Type 0
IsWithin count event.Boot = Unit {0}
IsWithin count (event.Send client server m) = server < count
IsWithin count (event.Run server ticks) = server < count
IsWithin count event.Finish = Unit {0}
IsWithin count (event.Dump server) = server < count
IsWithin count (event.Update u) = ⊥
IsWithin count (event.Work u units) = ⊥
IsWithin count (event.Commit u) = ⊥
IsWithin count (event.Abort u) = ⊥

abbrev pub with_mail : (Mail → Mail) → Machines → Machines
with_mail f w = record { runners = w.runners; mail = f w.mail }

-- nothing is held back
abbrev pub no_hold : Hold
no_hold = record { active = false; kinds = [] }

-- the server at a place takes the message at a place of its inbox, and its delivery begins
abbrev pub take_message : ℕ → Runner → ℕ → Option Message → Machines → Machines
take_message place r at None w = w
take_message place r at (Some m) w = record {
  runners = slice_set w.runners place (runner_in_delivery r m);
  mail = with_cell_at (without at) place w.mail;
}

abbrev pub take_at : ℕ → Runner → List Message → Option ℕ → Machines → Machines
take_at place r inbox None w = w
take_at place r inbox (Some at) w = take_message place r at (slice_get inbox at) w

-- a server that isn't dead and of which no call runs takes its next message, if there is one
abbrev pub take_by : ℕ → Option Runner → Option CellValue → Machines → Machines
take_by place (Some r) (Some c) w = if is_idle r c then take_at place r c.inbox (next_message no_hold c.inbox) w else w
take_by place None c w = w
take_by place (Some r) None w = w

abbrev pub take_next : ℕ → Machines → Machines
take_next place w = take_by place (slice_get w.runners place) (slice_get w.mail.cells place) w

-- the server at a place runs the delivery of the message for so many ticks, and goes on from `after`
pub record IsDelivered (place ticks : ℕ) (r : Runner) (m : Message) (old new : Machines) : Type 0 where
  pub answer : Stop
  pub after : ServerState
  pub run : IsRunBy ticks r.server answer after
  pub lasts : Lasts answer
  pub runners : new.runners ≡ slice_set old.runners place (runner_after answer after r.message)
  pub mail : new.mail ≡ delivery_mail place m after.process.outbox answer old.mail

abbrev pub GivesHand : ℕ → ℕ → Runner → Option Message → Machines → Machines → Type 0
GivesHand place ticks r None old new = new ≡ old
GivesHand place ticks r (Some m) old new = IsDelivered place ticks r m old new

abbrev pub GivesRunner : ℕ → ℕ → Option Runner → Machines → Machines → Type 0
GivesRunner place ticks None old new = new ≡ old
GivesRunner place ticks (Some r) old new = GivesHand place ticks r (in_hand r) old new

-- the server at a place gets so many ticks, if the delivery of a message runs
abbrev pub GivesTicks : ℕ → ℕ → Machines → Machines → Type 0
GivesTicks place ticks old new = GivesRunner place ticks (slice_get old.runners place) old new

-- the server at a place runs `init`, and goes on from `after`
pub record RunsInit (place : ℕ) (r : Runner) (old new : Machines) : Type 0 where
  pub answer : Stop
  pub after : ServerState
  pub run : IsRunBy CALL_TICKS (server_in_init r.server) answer after
  pub lasts : Lasts answer
  pub runners : new.runners ≡ slice_set old.runners place (runner_after answer after r.message)
  pub mail : new.mail ≡ init_mail place after.process.outbox answer old.mail

-- a server that isn't dead and of which no call runs boots
abbrev pub BootsIf : Bool → ℕ → Runner → Machines → Machines → Type 0
BootsIf true place r old new = RunsInit place r old new
BootsIf false place r old new = new ≡ old

abbrev pub BootsBy : ℕ → Option Runner → Option CellValue → Machines → Machines → Type 0
BootsBy place (Some r) (Some c) old new = BootsIf (is_idle r c) place r old new
BootsBy place None c old new = new ≡ old
BootsBy place (Some r) None old new = new ≡ old

abbrev pub IsBooted : ℕ → Machines → Machines → Type 0
IsBooted place old new = BootsBy place (slice_get old.runners place) (slice_get old.mail.cells place) old new

-- the first servers, so many, boot in order
abbrev pub AreBooted : ℕ → Machines → Machines → Type 0
AreBooted zero old new = new ≡ old
AreBooted (suc count) old new = (mid : Machines) × AreBooted count old mid × IsBooted count mid new

-- what is told of a server that isn't dead: its live objects, where no call of it runs
abbrev pub live_dump : Runner → Text → List Note
live_dump r name = if runs r then note.DumpBusy name ∷ [] else dump_notes name r.server.source.program r.server.process

abbrev pub dump_of : Runner → Text → Option Trap → List Note
dump_of r name (Some trap) = note.DumpDead name ∷ []
dump_of r name None = live_dump r name

abbrev pub dump_at : Option Runner → Option CellValue → List Note
dump_at (Some r) (Some c) = dump_of r c.name c.trap
dump_at None c = []
dump_at (Some r) None = []

-- the server at a place is told
abbrev pub dump_event : ℕ → Machines → Machines
dump_event place w =
    let notes = dump_at (slice_get w.runners place) (slice_get w.mail.cells place) in
    with_mail (λ mail. record { cells = mail.cells; told = mail.told ++ notes }) w

-- what an event of no update makes
abbrev pub IsStep : Event → Machines → Machines → Type 0
IsStep event.Boot old new = AreBooted (length old.runners) old new
IsStep (event.Send client server m) old new = new ≡ with_mail (put server (record m { source = client })) old
IsStep (event.Run server ticks) old new = GivesTicks server ticks (take_next server old) new
IsStep event.Finish old new = new ≡ with_mail (tells note.End) old
IsStep (event.Dump server) old new = new ≡ dump_event server old
IsStep (event.Update u) old new = ⊥
IsStep (event.Work u units) old new = ⊥
IsStep (event.Commit u) old new = ⊥
IsStep (event.Abort u) old new = ⊥
