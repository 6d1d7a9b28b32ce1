-- What a dump of a process tells.
use Rattle.std.specs.Prelude.{ℕ, ◌+◌, ◌-◌, if◌then◌else◌, List, [], ◌∷◌, ◌++◌, length, Option, Some, None, unwrap_or, slice_get, codes}
use Rattle.std.specs.Fmt.{decimal}
use Rattle.std.specs.FinMap as map
use Rattle.std.specs.Option.{option_map_or}
use Rattle.lu_lines.specs.Line.{Text}
use Rattle.lu_lines.specs.declared.note.Note.{Note}
use Rattle.lu_lines.specs.declared.note.Note.TheVariants as note
use Rattle.src_tree.specs.declared.program.Program.{Program}
use Rattle.bm_mem.specs.Content.{Content}
use Rattle.bm_objects.specs.declared.row.Row.{Row}
use Rattle.bm_code.specs.Process.{Process}

abbrev pub name_at : Program → ℕ → Text
name_at p n = unwrap_or (slice_get p.names n) []

abbrev pub function_name : Program → ℕ → Text
function_name p f = option_map_or (λ d. name_at p d.name) (slice_get p.functions f) []

abbrev pub global_name : Program → ℕ → Text
global_name p g = option_map_or (λ d. name_at p d.name) (slice_get p.globals g) []

-- `f#k`, the k-th allocation in the text of f; `temp` where the program has no such site
abbrev pub site_name : Program → ℕ → Text
site_name p site =
    option_map_or (λ d. function_name p d.function ++ 35 ∷ decimal d.ordinal) (slice_get p.sites site) (codes "temp")

-- The name of the object of number k: that of a global, or its site and its number behind the globals, dead ones counted.
abbrev pub object_name : Program → ℕ → Option ℕ → Text
object_name p k None = global_name p k
object_name p k (Some site) = site_name p site ++ 58 ∷ decimal (k - length p.globals)

abbrev pub object_note : Program → Content → ℕ → Row → Note
object_note p m k r = note.Object r.addr (object_name p k r.site) r.size (unwrap_or (map.get m r.addr) [])

-- the live objects from number k on
abbrev pub live_notes : Program → Content → ℕ → List Row → List Note
live_notes p m k [] = []
live_notes p m k (r ∷ rows) = (if r.live then object_note p m k r ∷ [] else []) ++ live_notes p m (k + 1) rows

-- their count and a note of each, in order
abbrev pub dump_notes : Text → Program → Process → List Note
dump_notes name p q =
    let notes = live_notes p q.content 0 q.rows in note.Dump name (length notes) ∷ notes
