-- The renames of an update's plan, as those by which two programs pair.
use Rattle.std.specs.Prelude.{List, ℕ, map, if◌then◌else◌, codes}
use Rattle.std.specs.Str.{bytes_eq}
use Rattle.plan_file.specs.declared.plan.Rename as Planned
use Rattle.lu_image.specs.declared.rename.Table.{Table}
use Rattle.lu_image.specs.declared.rename.Table.TheVariants as table
use Rattle.lu_image.specs.declared.rename.Rename.{Rename}
use Rattle.lu_image.specs.Renaming.{in_order}

-- the table of a plan's word; the words of a plan are these seven
abbrev pub table_of : List ℕ → Table
table_of word =
    if bytes_eq word (codes "global") then table.Global else
    (if bytes_eq word (codes "struct") then table.Struct else
    (if bytes_eq word (codes "field") then table.Field else
    (if bytes_eq word (codes "union") then table.Union else
    (if bytes_eq word (codes "member") then table.Member else
    (if bytes_eq word (codes "function") then table.Function else table.Site)))))

abbrev pub rename_of : Planned.Rename → Rename
rename_of r = record { table = table_of r.table; old = r.old; new = r.new }

-- the renames in the order in which they are tried
abbrev pub renames_of : List Planned.Rename → List Rename
renames_of renames = in_order (map rename_of renames)
