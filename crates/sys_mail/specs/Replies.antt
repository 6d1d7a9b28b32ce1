-- What the answers of dead servers make of cells and notes.
use Rattle.std.specs.Prelude.{◌≡◌, ℕ, ℤ, List}
use Rattle.lu_base.specs.declared.message.Message.{Message}
use Rattle.lu_lines.specs.Line.{Text}
use Rattle.lu_lines.specs.declared.note.Note.{Note}
use Rattle.sys_world.specs.World.{CellValue}
use Rattle.sys_world.specs.Mail.{Mail, at_cell, answered_by, answered_at, answer_of, answer_all, place_of}
use Rattle.sys_mail.specs.Room.{CellRoom, cell_values}

-- an answer came to the server at a place, whatever was told before
abbrev pub AnswerComes : ℕ → Message → List CellRoom → List CellRoom → Type 0
AnswerComes place m old new =
    (told : List Note)
    → record { cells = cell_values new; told = told }
    ≡ at_cell (λ c mail. answered_by place m c.trap mail) place (record { cells = cell_values old; told = told })

-- the dead server of that name and number answers to a number
abbrev pub answer_by : Text → ℤ → ℤ → Mail → Mail
answer_by name number to mail = answered_at name to (answer_of number) (place_of mail.cells to) mail

-- a dead server of that name and number answered those messages in order
abbrev pub AnswersAll : Text → ℤ → List Message → Mail → Mail → Type 0
AnswersAll name number ms old new =
    (dead : CellValue) → dead.name ≡ name → dead.number ≡ number → new ≡ answer_all dead ms old
