-- What clauses see of notes.
use Rattle.std.specs.Prelude.{ℕ, List}
use Rattle.lu_lines.specs.declared.note.Note.{Note}

pub record NotesValue : Type 0 where
  pub list : List Note
  -- how many more notes have room
  pub spare : ℕ
