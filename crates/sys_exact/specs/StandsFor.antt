-- When the processes of a system stand for a world.
use Rattle.std.specs.Prelude.{◌≡◌, ℕ, true, false, Option, Some, None, length, slice_get}
use Rattle.lu_base.specs.declared.message.Message.{Message}
use Rattle.lu_base.specs.declared.trap.Trap.{Trap}
use Rattle.src_tree.specs.declared.value.Store.{Store}
use Rattle.src_meaning.specs.Delivery.{Delivered, deliver}
use Rattle.cg_meaning.specs.Servers.{IsServerOf}
use Rattle.cg_meaning.specs.Runs.{IsBusy}
use Rattle.sys_world.specs.Setup.{SystemSetup}
use Rattle.sys_world.specs.World.{State, Idle, Busy, Dead, Host, CellValue, SystemWorld}
use Rattle.sys_world.specs.Mail.{Mail}
use Rattle.sys_run.specs.declared.runner.Runner.{Runner}
use Rattle.sys_run.specs.Runs.{Machines, runs}

-- the server lives, and its process stands for the store
pub record Rests (r : Runner) (trap : Option Trap) (store : Store) : Type 0 where
  pub alive : trap ≡ None
  pub server : IsServerOf r.server store

-- the server lives, the message is in hand, and its delivery, which ends so in the text, has had so many ticks
pub record Works (r : Runner) (trap : Option Trap) (outcome : Delivered) (m : Message) (given : ℕ) : Type 0 where
  pub alive : trap ≡ None
  pub message : r.message ≡ Some m
  pub under_way : runs r ≡ true
  pub busy : IsBusy r.server outcome given

-- the server died of the trap, and no call runs
pub record IsDead (r : Runner) (trap : Option Trap) (by : Trap) : Type 0 where
  pub dead : trap ≡ Some by
  pub over : runs r ≡ false

-- the process of a server, and the trap in its cell, where the server is at a state
abbrev pub IsAt : Runner → Option Trap → Host → State → Type 0
IsAt r trap h (Idle store) = Rests r trap store
IsAt r trap h (Busy store m given) = Works r trap (deliver h.program h.world store m) m given
IsAt r trap h (Dead by) = IsDead r trap by

-- the process of a server that has no update stands for its host
pub record IsHost (r : Runner) (h : Host) (c : CellValue) : Type 0 where
  pub program : h.program ≡ r.server.source.program
  pub world : h.world ≡ r.server.world
  pub life : h.life ≡ None
  pub is_at : IsAt r c.trap h h.state

abbrev pub mail_in : SystemWorld → Mail
mail_in w = record { cells = w.cells; told = w.told }

-- a server with its process, its host and its cell, or none of them
pub data At : Option Runner → Option Host → Option CellValue → Type 0 where
  nobody : At None None None
  somebody : (r : Runner) (h : Host) (c : CellValue) → IsHost r h c → At (Some r) (Some h) (Some c)

-- Each server's process stands for its host, and what is in the cells and what was told are those of the world.
pub record StandsFor (setup : SystemSetup) (machines : Machines) (w : SystemWorld) : Type 0 where
  pub count : length setup.servers ≡ length machines.runners
  pub servers : (place : ℕ) → At (slice_get machines.runners place) (slice_get w.hosts place) (slice_get w.cells place)
  pub mail : machines.mail ≡ mail_in w
