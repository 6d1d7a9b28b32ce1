-- What clauses see of cells.
use Rattle.std.specs.Prelude.{ℕ, List, map}
use Rattle.lu_lines.specs.Notes.{NotesValue}
use Rattle.sys_world.specs.World.{CellValue}
use Rattle.sys_world.specs.Mail.{Mail}

pub record CellRoom : Type 0 where
  pub value : CellValue
  -- how many more entries the history has room for
  pub spare : ℕ

abbrev pub cell_values : List CellRoom → List CellValue
cell_values cells = map (λ c. c.value) cells

-- cells and notes as the mail that they hold
abbrev pub mail_of : List CellRoom → NotesValue → Mail
mail_of cells notes = record { cells = cell_values cells; told = notes.list }
