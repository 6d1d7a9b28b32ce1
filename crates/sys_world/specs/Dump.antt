-- What a dump of a server tells.
use Rattle.std.specs.Prelude.{ℕ, ◌+◌, List, [], ◌∷◌, ◌++◌, length, if◌then◌else◌}
use Rattle.src_tree.specs.declared.program.Program.{Program}
use Rattle.src_tree.specs.declared.value.Object.{Object}
use Rattle.src_tree.specs.declared.value.Store.{Store}
use Rattle.src_meaning.specs.Objects.{is_live, object_size, addresses}
use Rattle.src_meaning.specs.ValueBytes.{object_bytes}
use Rattle.lu_lines.specs.Line.{Text}
use Rattle.lu_lines.specs.declared.note.Note.{Note}
use Rattle.lu_lines.specs.declared.note.Note.TheVariants as note
use Rattle.sys_world.specs.World.{State, Idle, Busy, Dead}
use Rattle.sys_world.specs.Naming.{object_name}

abbrev pub object_note : Program → Store → ℕ → ℕ → Object → Note
object_note p store k address x =
    note.Object address (object_name p store k) (object_size p.types x) (object_bytes p.types store x)

-- the live objects from number k on, at these addresses
abbrev pub live_notes : Program → Store → ℕ → List ℕ → List Object → List Note
live_notes p store k (a ∷ rest) (x ∷ xs) =
    (if is_live x then object_note p store k a x ∷ [] else []) ++ live_notes p store (k + 1) rest xs
live_notes p store k rest xs = []

abbrev pub counted : Text → List Note → List Note
counted name notes = note.Dump name (length notes) ∷ notes

-- an idle server shows its live objects, in order
abbrev pub dump_notes : Text → Program → State → List Note
dump_notes name p (Idle store) = counted name (live_notes p store 0 (addresses p.types store) store.objects)
dump_notes name p (Busy store m given) = note.DumpBusy name ∷ []
dump_notes name p (Dead trap) = note.DumpDead name ∷ []
