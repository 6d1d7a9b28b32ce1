-- What a run of servers tells, event by event.
use Rattle.std.specs.Prelude.{◌≡◌, ℕ, zero, suc, pos, ◌+◌, List, [], ◌∷◌, ◌++◌, length, map, Option, Some, None, slice_get}
use Rattle.lu_lines.specs.declared.note.Note.{Note}
use Rattle.lu_lines.specs.Line.{line_bytes}
use Rattle.plan_file.specs.declared.plan.Server.{Server}
use Rattle.sched_file.specs.declared.event.Event.{Event}
use Rattle.sched_file.specs.declared.event.Event.TheVariants.{Boot, Finish}
use Rattle.cg_program.specs.Compiled.{Source}
use Rattle.sys_run.specs.declared.system.ServerCode.{ServerCode}
use Rattle.sys_run.specs.Runs.{Machines}
use Rattle.sys_run.specs.Start.{start_runner, start_cell}
use Rattle.sys_run.specs.Events.{IsStep}
use Rattle.lu_load.specs.declared.setup.Setup.{Setup}

-- a server of the plan with the code that it begins with
pub record IsServerOf (server : Server) (source : Source) (s : ServerCode) : Type 0 where
  pub name : s.name.now ≡ server.name
  pub number : s.number ≡ pos server.number
  pub version : s.version ≡ server.version
  pub code : s.code.now ≡ source

-- each server of the plan, in order, with the code that it begins with
pub record AreServersOf (setup : Setup) (servers : List ServerCode) : Type 0 where
  pub count : length servers ≡ length setup.plan.server
  pub each : (k : ℕ) (x : Server) (c : Source) (s : ServerCode) → slice_get setup.plan.server k ≡ Some x
      → slice_get setup.codes k ≡ Some c → slice_get servers k ≡ Some s → IsServerOf x c s

-- the servers before the boot
abbrev pub start : List ServerCode → Machines
start servers = record {
  runners = map (start_runner servers) servers;
  mail = record { cells = map start_cell servers; told = [] };
}

-- with nothing told
abbrev pub silent : Machines → Machines
silent w = record { runners = w.runners; mail = record { cells = w.mail.cells; told = [] } }

abbrev pub or_finish : Option Event → Event
or_finish None = Finish
or_finish (Some e) = e

-- the boot, the events, and the end of the run
abbrev pub event_at : List Event → ℕ → Event
event_at events zero = Boot
event_at events (suc n) = or_finish (slice_get events n)

-- the lines of notes
abbrev pub lines_bytes : List Note → List ℕ
lines_bytes [] = []
lines_bytes (note ∷ notes) = line_bytes note ++ lines_bytes notes

-- what the first events of a run, so many, make of the servers, and the lines of what they tell
abbrev pub AreTold : List Event → Machines → ℕ → Machines → List ℕ → Type 0
AreTold events old zero now text = (now ≡ old) × (text ≡ [])
AreTold events old (suc n) now text =
    (mid : Machines) × (before : List ℕ) × AreTold events old n mid before
    × IsStep (event_at events n) (silent mid) now × (text ≡ before ++ lines_bytes now.mail.told)

-- the lines that a run of the setup's servers tells by the end of so many events
pub record TellsFirst (setup : Setup) (count : ℕ) (text : List ℕ) : Type 0 where
  pub servers : List ServerCode
  pub are : AreServersOf setup servers
  pub now : Machines
  pub told : AreTold setup.events (start servers) count now text

-- the lines of a whole run: of the boot, the setup's events and the end
abbrev pub Tells : Setup → List ℕ → Type 0
Tells setup text = TellsFirst setup (length setup.events + 2) text
