-- What a world is made of.
use Rattle.std.specs.Prelude.{ℕ, zero, suc, ℤ, List, [], ◌∷◌, map, Option, None}
use Rattle.lu_base.specs.declared.message.Message.{Message}
use Rattle.lu_base.specs.declared.trap.Trap.{Trap}
use Rattle.lu_base.specs.declared.world.World.{World}
use Rattle.lu_base.specs.Sending.{Sent}
use Rattle.src_tree.specs.declared.program.Program.{Program}
use Rattle.src_tree.specs.declared.value.Store.{Store}
use Rattle.src_meaning.specs.Initial.{initial_store}
use Rattle.lu_lines.specs.Line.{Text}
use Rattle.lu_lines.specs.declared.note.Note.{Note}
use Rattle.sys_world.specs.declared.happened.Happened.{Happened}
use Rattle.sys_world.specs.declared.outcome.Outcome.{Outcome}
use Rattle.sys_world.specs.Setup.{ServerSetup, UpdateSetup, SystemSetup}

-- what a server is at: idle with a store; busy with the store before, the message in hand and the ticks given; dead of a trap
pub data State : Type 0 where
  Idle : (store : Store) → State
  Busy : (store : Store) (message : Message) (given : ℕ) → State
  Dead : (trap : Trap) → State

-- an active attempt: the update and its number, how far it is, the deliveries that ended since the request, the units done
pub record Life : Type 0 where
  pub number : ℕ
  pub update : UpdateSetup
  pub outcome : Outcome
  pub deliveries : ℕ
  pub done : ℕ

-- a server that runs a program, and its active attempt
pub record Host : Type 0 where
  pub world : World
  pub program : Program
  pub state : State
  pub life : Option Life

-- The plain data of a server: its name, number and version, its trap where it is dead, its inbox, all that ever arrived
-- in it, what its death answered, what it sent, and its history.
pub record CellValue : Type 0 where
  pub name : Text
  pub number : ℤ
  pub version : ℕ
  pub trap : Option Trap
  pub inbox : List Message
  pub arrived : List Message
  pub answered : List Message
  pub sent : List Sent
  pub history : List Happened

-- the servers in the order of the plan, each as a host and a cell, and what the last event told
pub record SystemWorld : Type 0 where
  pub hosts : List Host
  pub cells : List CellValue
  pub told : List Note

-- an element changed
abbrev pub change : {A : Type 0} → (A → A) → ℕ → List A → List A
change f i [] = []
change f zero (x ∷ xs) = f x ∷ xs
change f (suc i) (x ∷ xs) = x ∷ change f i xs

-- before Boot each server is idle with the store at the start of its program
abbrev pub start_host : ServerSetup → Host
start_host s = record {
  world = s.world;
  program = s.program;
  state = Idle (initial_store s.program);
  life = None;
}

abbrev pub start_cell : ServerSetup → CellValue
start_cell s = record {
  name = s.name;
  number = s.world.own;
  version = s.version;
  trap = None;
  inbox = [];
  arrived = [];
  answered = [];
  sent = [];
  history = [];
}

abbrev pub start : SystemSetup → SystemWorld
start setup = record {
  hosts = map start_host setup.servers;
  cells = map start_cell setup.servers;
  told = [];
}
