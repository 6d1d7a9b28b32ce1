-- What runs of a server's process leave of it, and of the mail.
use Rattle.std.specs.Prelude.{◌≡◌, ℕ, ◌&&◌, not, Bool, is_none, List, Option, Some, None, if◌then◌else◌}
use Rattle.lu_base.specs.declared.message.Message.{Message}
use Rattle.lu_base.specs.Sending.{Sent}
use Rattle.lu_lines.specs.declared.note.Note.{Note}
use Rattle.lu_lines.specs.Notes.{NotesValue}
use Rattle.bm_code.specs.Calls.{is_running, without_sends}
use Rattle.bm_code.specs.declared.stop.Stop.{Stop}
use Rattle.bm_code.specs.declared.stop.Stop.TheVariants as stop
use Rattle.cg_server.specs.Deliveries.{IsServed, begun_delivery, begun_init}
use Rattle.cg_server.specs.State.{ServerState, with_process}
use Rattle.sys_world.specs.World.{CellValue}
use Rattle.sys_world.specs.Mail.{Mail, boot_mail, die_mail, returned_mail, trapped_mail}
use Rattle.sys_mail.specs.Room.{CellRoom, cell_values, mail_of}
use Rattle.sys_run.specs.declared.runner.Runner.{Runner}

-- the servers in the order of the plan, each as a process and a cell
pub record SystemValue : Type 0 where
  pub runners : List Runner
  pub cells : List CellRoom

-- the processes, and the cells with what was told
pub record Machines : Type 0 where
  pub runners : List Runner
  pub mail : Mail

abbrev pub machines_of : List Runner → List CellRoom → NotesValue → Machines
machines_of runners cells notes = record { runners = runners; mail = mail_of cells notes }

abbrev pub machines_with : List Runner → List CellRoom → List Note → Machines
machines_with runners cells told = record { runners = runners; mail = record { cells = cell_values cells; told = told } }

-- a call of the server runs
abbrev pub runs : Runner → Bool
runs r = is_running r.server.process.activity

-- the message whose delivery runs
abbrev pub in_hand : Runner → Option Message
in_hand r = if runs r then r.message else None

-- a server that isn't dead, and of which no call runs
abbrev pub is_idle : Runner → CellValue → Bool
is_idle r c = not (runs r) && is_none c.trap

-- a delivery begins
abbrev pub runner_in_delivery : Runner → Message → Runner
runner_in_delivery r m = record {
  server = with_process r.server (begun_delivery r.server.source r.server.process m);
  message = Some m;
}

-- a call of `init` begins
abbrev pub server_in_init : ServerState → ServerState
server_in_init s = with_process s (begun_init s.source s.process)

-- what a run of so many ticks answers, and the server that it leaves
pub record IsRunBy (ticks : ℕ) (before : ServerState) (answer : Stop) (after : ServerState) : Type 0 where
  pub run : IsServed before.source before.world ticks before.process answer after.process
  pub kept : after ≡ with_process before after.process

-- memory lasted through the run
abbrev pub Lasts : Stop → Type 0
Lasts (stop.Returned word) = Unit {0}
Lasts (stop.Trapped trap) = Unit {0}
Lasts stop.Paused = Unit {0}
Lasts stop.Memory = ⊥

-- with no message in hand, and nothing that waits to leave
abbrev pub runner_at_rest : ServerState → Runner
runner_at_rest s = record { server = with_process s (without_sends s.process); message = None }

-- what a run leaves of the server: a call that has ended leaves no message in hand
abbrev pub runner_after : Stop → ServerState → Option Message → Runner
runner_after (stop.Returned word) s m = runner_at_rest s
runner_after (stop.Trapped trap) s m = runner_at_rest s
runner_after stop.Paused s m = record { server = s; message = m }
runner_after stop.Memory s m = record { server = s; message = m }

-- what the run of a delivery leaves of the mail: at its end the sends leave, or the server dies
abbrev pub delivery_mail : ℕ → Message → List Sent → Stop → Mail → Mail
delivery_mail place m sends (stop.Returned word) mail = returned_mail place m sends mail
delivery_mail place m sends (stop.Trapped trap) mail = trapped_mail place m trap mail
delivery_mail place m sends stop.Paused mail = mail
delivery_mail place m sends stop.Memory mail = mail

-- what the run of `init` leaves of the mail
abbrev pub init_mail : ℕ → List Sent → Stop → Mail → Mail
init_mail place sends (stop.Returned word) mail = boot_mail place sends mail
init_mail place sends (stop.Trapped trap) mail = die_mail place trap mail
init_mail place sends stop.Paused mail = mail
init_mail place sends stop.Memory mail = mail
