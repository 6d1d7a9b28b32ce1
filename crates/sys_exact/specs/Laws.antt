-- The laws of systems, as statements.
use Rattle.std.specs.Prelude.{◌≡◌, ℕ, Some, None, slice_get}
use Rattle.lu_base.specs.declared.message.Message.{Message}
use Rattle.src_tree.specs.declared.value.Store.{Store}
use Rattle.src_meaning.specs.Initial.{initial_store}
use Rattle.cg_sim_store.specs.Messages.{IsMessage}
use Rattle.sched_file.specs.declared.event.Event.{Event}
use Rattle.sched_file.specs.declared.event.Event.TheVariants as event
use Rattle.sys_world.specs.Setup.{SystemSetup}
use Rattle.sys_world.specs.World.{Idle, Host, CellValue, SystemWorld}
use Rattle.sys_world.specs.Steps.{happen}
use Rattle.sys_run.specs.Runs.{Machines}
use Rattle.sys_run.specs.Events.{IsStep}
use Rattle.sys_exact.specs.StandsFor.{StandsFor}

-- each message that waits has ints for its numbers, and six arguments
abbrev pub MessagesAreInts : Machines → Type 0
MessagesAreInts machines =
    (place at : ℕ) (c : CellValue) (m : Message)
    → slice_get machines.mail.cells place ≡ Some c → slice_get c.inbox at ≡ Some m → IsMessage m

-- each idle server has the store at the start of its program
abbrev pub AreAtStart : SystemWorld → Type 0
AreAtStart w =
    (place : ℕ) (h : Host) (store : Store) → slice_get w.hosts place ≡ Some h → h.state ≡ Idle store
    → store ≡ initial_store h.program

-- servers boot from the start
abbrev pub BootsAtStart : Event → SystemWorld → Type 0
BootsAtStart event.Boot w = AreAtStart w
BootsAtStart e w = Unit {0}

-- Processes that stand for a world stand, after an event, for what the definition makes of that world.
abbrev pub EventsAreExact : Type 0
EventsAreExact =
    (setup : SystemSetup) (e : Event) (w : SystemWorld) (old new : Machines) → StandsFor setup old w → MessagesAreInts old
    → BootsAtStart e w → IsStep e old new → StandsFor setup new (happen setup None e w)
