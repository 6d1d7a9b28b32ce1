-- What laws say of one server.
use Rattle.std.specs.Prelude.{◌≡◌, ℤ, List, [], ◌∷◌, ◌++◌, Option, Some, None}
use Rattle.std.specs.List.{filter}
use Rattle.std.specs.Ordering.{int_eq}
use Rattle.lu_base.specs.declared.message.Message.{Message}
use Rattle.lu_base.specs.declared.trap.Trap.{Trap}
use Rattle.sys_world.specs.declared.happened.Happened.{Happened}
use Rattle.sys_world.specs.declared.happened.Happened.TheVariants as happened
use Rattle.sys_world.specs.Setup.{ServerSetup}
use Rattle.sys_world.specs.World.{State, Idle, Busy, Dead, Host, CellValue}

-- a host and a cell with the name and the numbers that the setup gives the server
pub record IsNamedBy (s : ServerSetup) (h : Host) (c : CellValue) : Type 0 where
  pub world : h.world ≡ s.world
  pub name : c.name ≡ s.name
  pub number : c.number ≡ s.world.own

-- the messages of one source, in their order
abbrev pub of_source : ℤ → List Message → List Message
of_source source ms = filter (λ m. int_eq m.source source) ms

-- the messages whose deliveries ended, in order
abbrev pub delivered : List Happened → List Message
delivered [] = []
delivered (happened.Delivered m ∷ hs) = m ∷ delivered hs
delivered (happened.Committed u ∷ hs) = delivered hs

-- the message in hand
abbrev pub in_hand : State → List Message
in_hand (Idle store) = []
in_hand (Busy store m given) = m ∷ []
in_hand (Dead trap) = []

-- all messages of a server: delivered, in hand, waiting, and answered by its death
abbrev pub all_messages : Host → CellValue → List Message
all_messages h c = delivered c.history ++ (in_hand h.state ++ (c.inbox ++ c.answered))

-- of each source they are those that arrived, in order
abbrev pub IsOrdered : Host → CellValue → Type 0
IsOrdered h c = (source : ℤ) → of_source source (all_messages h c) ≡ of_source source c.arrived

-- of each source those delivered are the first that arrived
abbrev pub IsDeliveredInOrder : CellValue → Type 0
IsDeliveredInOrder c = (source : ℤ) → (rest : List Message) × (of_source source c.arrived ≡ of_source source (delivered c.history) ++ rest)

-- where the cell has a trap the server is dead of it, and no message waits; where it has none the server lives
abbrev pub IsDeadOf : Option Trap → State → List Message → Type 0
IsDeadOf (Some trap) (Dead by) inbox = (by ≡ trap) × (inbox ≡ [])
IsDeadOf (Some trap) (Idle store) inbox = ⊥
IsDeadOf (Some trap) (Busy store m given) inbox = ⊥
IsDeadOf None (Dead by) inbox = ⊥
IsDeadOf None (Idle store) inbox = Unit {0}
IsDeadOf None (Busy store m given) inbox = Unit {0}
