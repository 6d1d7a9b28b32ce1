-- Messages on their way: replies to clients, arrivals at live servers, and answers of dead ones.
use Rattle.std.specs.Prelude.{ℕ, ℤ, negsuc, List, [], ◌∷◌, ◌++◌, position, remove, Option, Some, None, slice_get}
use Rattle.std.specs.Ordering.{int_eq}
use Rattle.lu_base.specs.declared.message.Message.{Message}
use Rattle.lu_base.specs.declared.trap.Trap.{Trap}
use Rattle.lu_base.specs.Sending.{Sent}
use Rattle.src_meaning.specs.Sending.{zero_message}
use Rattle.lu_lines.specs.Line.{Text}
use Rattle.lu_lines.specs.declared.note.Note.{Note}
use Rattle.lu_lines.specs.declared.note.Note.TheVariants as note
use Rattle.sys_world.specs.declared.happened.Happened.{Happened}
use Rattle.sys_world.specs.declared.happened.Happened.TheVariants.{Delivered, Committed}
use Rattle.sys_world.specs.World.{CellValue, change}

-- the plain data of all servers, and what was told so far
pub record Mail : Type 0 where
  pub cells : List CellValue
  pub told : List Note

abbrev pub tells : Note → Mail → Mail
tells n mail = record { cells = mail.cells; told = mail.told ++ n ∷ [] }

-- the cell at a place changed
abbrev pub with_cell_at : (CellValue → CellValue) → ℕ → Mail → Mail
with_cell_at f place mail = record { cells = change f place mail.cells; told = mail.told }

-- what is done for the cell at a place; nothing where there is none
abbrev pub on_cell : (CellValue → Mail → Mail) → Option CellValue → Mail → Mail
on_cell f None mail = mail
on_cell f (Some c) mail = f c mail

abbrev pub at_cell : (CellValue → Mail → Mail) → ℕ → Mail → Mail
at_cell f place mail = on_cell f (slice_get mail.cells place) mail

-- the place of the server of that number; a client has none
abbrev pub place_of : List CellValue → ℤ → Option ℕ
place_of cells number = position (λ c. int_eq c.number number) cells

-- a message goes last into the inbox
abbrev pub with_arrival : Message → CellValue → CellValue
with_arrival m c = record c { inbox = c.inbox ++ m ∷ []; arrived = c.arrived ++ m ∷ [] }

abbrev pub arrives : ℕ → Message → Mail → Mail
arrives place m mail = with_cell_at (with_arrival m) place mail

-- the line of a message from the server of that name to a client
abbrev pub reply : Text → ℤ → Message → Note
reply name client m = note.Reply name client m.kind m.arg

-- the answer of the dead server of that number
abbrev pub answer_of : ℤ → Message
answer_of number = record { source = number; kind = negsuc 0; arg = zero_message.arg }

-- an answer comes to a server, which drops it where it is dead
abbrev pub answered_by : ℕ → Message → Option Trap → Mail → Mail
answered_by place m None mail = arrives place m mail
answered_by place m (Some trap) mail = mail

abbrev pub answered_at : Text → ℤ → Message → Option ℕ → Mail → Mail
answered_at name to m None mail = tells (reply name to m) mail
answered_at name to m (Some place) mail = at_cell (λ c mail. answered_by place m c.trap mail) place mail

-- a dead server answers to a number
abbrev pub answer : CellValue → ℤ → Mail → Mail
answer dead to mail = answered_at dead.name to (answer_of dead.number) (place_of mail.cells to) mail

abbrev pub answer_all : CellValue → List Message → Mail → Mail
answer_all dead [] mail = mail
answer_all dead (m ∷ ms) mail = answer_all dead ms (answer dead m.source mail)

-- a message comes to a server: into the inbox of a live one, and a dead one answers it
abbrev pub put_by : ℕ → Message → CellValue → Option Trap → Mail → Mail
put_by place m c None mail = arrives place m mail
put_by place m c (Some trap) mail = answer c m.source mail

abbrev pub put : ℕ → Message → Mail → Mail
put place m mail = at_cell (λ c mail. put_by place m c c.trap mail) place mail

-- a message of the server of that name goes to a client as a reply, or comes to a server
abbrev pub post_to : Text → Sent → Option ℕ → Mail → Mail
post_to name s None mail = tells (reply name s.0 s.1) mail
post_to name s (Some place) mail = put place s.1 mail

abbrev pub post : Text → Sent → Mail → Mail
post name s mail = post_to name s (place_of mail.cells s.0) mail

abbrev pub post_all : Text → List Sent → Mail → Mail
post_all name [] mail = mail
post_all name (s ∷ ss) mail = post_all name ss (post name s mail)

-- plain data changed
abbrev pub with_sent : List Sent → CellValue → CellValue
with_sent sends c = record c { sent = c.sent ++ sends }

abbrev pub with_history : Happened → CellValue → CellValue
with_history h c = record c { history = c.history ++ h ∷ [] }

abbrev pub with_trap : Trap → CellValue → CellValue
with_trap trap c = record c { trap = Some trap; inbox = []; answered = c.inbox }

abbrev pub with_commit : ℕ → ℕ → CellValue → CellValue
with_commit u to c = record c { version = to; history = c.history ++ Committed u ∷ [] }

abbrev pub without : ℕ → CellValue → CellValue
without i c = record c { inbox = remove c.inbox i }

-- what a server sent leaves, in order
abbrev pub send_mail : ℕ → List Sent → Mail → Mail
send_mail place sends mail = at_cell (λ c mail. post_all c.name sends (with_cell_at (with_sent sends) place mail)) place mail

abbrev pub boot_mail : ℕ → List Sent → Mail → Mail
boot_mail place sends mail = send_mail place sends (at_cell (λ c mail. tells (note.Boot c.name) mail) place mail)

-- the server dies: its trap line, and then its inbox is answered in order
abbrev pub die_mail : ℕ → Trap → Mail → Mail
die_mail place trap mail =
    at_cell (λ c mail. answer_all c c.inbox (with_cell_at (with_trap trap) place (tells (note.Trap c.name trap) mail))) place mail

-- the end of a delivery, which the history keeps
abbrev pub returned_mail : ℕ → Message → List Sent → Mail → Mail
returned_mail place m sends mail = send_mail place sends (with_cell_at (with_history (Delivered m)) place mail)

abbrev pub trapped_mail : ℕ → Message → Trap → Mail → Mail
trapped_mail place m trap mail = die_mail place trap (with_cell_at (with_history (Delivered m)) place mail)
