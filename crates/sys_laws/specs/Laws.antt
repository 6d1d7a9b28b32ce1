-- Laws of the servers of every world that events reach, as statements.
use Rattle.std.specs.Prelude.{◌≡◌, ℕ, false, List, ◌∷◌, Some, slice_get}
use Rattle.std.specs.List.{list_any}
use Rattle.sched_file.specs.declared.event.Event.{Event}
use Rattle.sched_file.specs.declared.event.Event.TheVariants as event
use Rattle.sys_world.specs.Setup.{ServerSetup, SystemSetup}
use Rattle.sys_world.specs.World.{Host, CellValue, SystemWorld}
use Rattle.sys_world.specs.Transcript.{Met}
use Rattle.sys_world.specs.Replay.{IsReplayed}
use Rattle.sys_laws.specs.Reached.{reached, is_boot}
use Rattle.sys_laws.specs.Servers.{IsNamedBy, IsDeadOf, IsOrdered, IsDeliveredInOrder}

-- the host and the cell of the server at a place of a world
pub record IsServer (w : SystemWorld) (place : ℕ) (h : Host) (c : CellValue) : Type 0 where
  pub host : slice_get w.hosts place ≡ Some h
  pub cell : slice_get w.cells place ≡ Some c

-- a world has a server at a place
pub record HasServer (w : SystemWorld) (place : ℕ) (s : ServerSetup) : Type 0 where
  pub server_host : Host
  pub server_cell : CellValue
  pub is_server : IsServer w place server_host server_cell
  pub named : IsNamedBy s server_host server_cell

-- every world has each server of the setup at its place, with its name and its numbers
abbrev pub ServersStay : Type 0
ServersStay =
    (setup : SystemSetup) (ks : Met) (events : List Event) (place : ℕ) (s : ServerSetup) → slice_get setup.servers place ≡ Some s
    → HasServer (reached setup ks events) place s

-- a server's trap in its cell is the one that its host died of, and no message waits for a dead one
abbrev pub DeadInboxesAreEmpty : Type 0
DeadInboxesAreEmpty =
    (setup : SystemSetup) (ks : Met) (events : List Event) (place : ℕ) (h : Host) (c : CellValue)
    → IsServer (reached setup ks events) place h c → IsDeadOf c.trap h.state c.inbox

-- of each source, the messages delivered, then in hand, then waiting or answered by death, are those that arrived, in order
abbrev pub MessagesKeepOrder : Type 0
MessagesKeepOrder =
    (setup : SystemSetup) (ks : Met) (events : List Event) (place : ℕ) (h : Host) (c : CellValue)
    → IsServer (reached setup ks events) place h c → IsOrdered h c

-- of each source, those delivered are the first that arrived, so that each is delivered at most once
abbrev pub DeliveriesCameFirst : Type 0
DeliveriesCameFirst =
    (setup : SystemSetup) (ks : Met) (events : List Event) (place : ℕ) (h : Host) (c : CellValue)
    → IsServer (reached setup ks events) place h c → IsDeliveredInOrder c

-- after one boot, a server is where its history leads, and has sent what that sends
abbrev pub HistoriesReplay : Type 0
HistoriesReplay =
    (setup : SystemSetup) (ks : Met) (events : List Event) → list_any is_boot events ≡ false
    → (place : ℕ) (s : ServerSetup) (h : Host) (c : CellValue) → slice_get setup.servers place ≡ Some s
    → IsServer (reached setup ks (event.Boot ∷ events)) place h c → IsReplayed setup s h c
