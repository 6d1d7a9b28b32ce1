-- Which renames are refused.
use Rattle.std.specs.Prelude.{ℕ, Bool, false, ◌||◌, not, if◌then◌else◌, List, [], ◌∷◌, ◌++◌, map, is_some, Option, Some, None, Result, Ok, Err, slice_get, codes}
use Rattle.std.specs.Str.{bytes_eq}
use Rattle.c_types.specs.declared.parts.TagDef.{TagDef}
use Rattle.src_tree.specs.declared.program.Program.{Program}
use Rattle.lu_image.specs.declared.rename.Table.{Table}
use Rattle.lu_image.specs.declared.rename.Table.TheVariants as T
use Rattle.lu_image.specs.declared.rename.Rename.{Rename}
use Rattle.lu_image.specs.declared.error.PairError.{PairError}
use Rattle.lu_image.specs.declared.error.PairError.TheVariants.{NoSuch, Twice}
use Rattle.lu_image.specs.declared.pairing.Pairing.{Pairing}
use Rattle.lu_image.specs.Names.{Names, joined, find, global_names, function_names, tag_names, part_names, site_names}
use Rattle.lu_image.specs.Pairing.{of_table, given_name, is_given, struct_pair, union_pair, paired_parts, pairing_of}

-- the globals `m_in` and `m_out` and the struct `message`, which pair with themselves
abbrev pub is_fixed : Table → List ℕ → Bool
is_fixed T.Global name = bytes_eq name (codes "m_in") || bytes_eq name (codes "m_out")
is_fixed T.Struct name = bytes_eq name (codes "message")
is_fixed _ name = false

-- a name as renames see it: an entry that pairs with itself has none
abbrev pub open_name : Table → Option (List ℕ) → Option (List ℕ)
open_name table None = None
open_name table (Some name) = if is_fixed table name then None else Some name

-- the fields of a struct, or the members of a union, behind the tag that renames see
abbrev pub open_parts : Table → List (List ℕ) → TagDef → Names
open_parts table texts tag = part_names texts (open_name table (slice_get texts tag.tag)) tag.fields

-- the fields or members of a pair, behind the old tag
abbrev pub new_parts : List (List ℕ) → List (List ℕ) → List TagDef → (TagDef → Option ℕ) → TagDef → Names
new_parts old new new_tags pair tag = part_names new (slice_get old tag.tag) (paired_parts new_tags (pair tag))

-- Why a rename is refused after these earlier ones of its table: the old program doesn't have its old name, the new
-- program doesn't have its new name, or an earlier rename gives that.
abbrev pub rename_refusal : Names → Names → List Rename → Rename → Option PairError
rename_refusal old new earlier r =
    if not (is_some (find r.old old)) then Some (NoSuch r.table r.old) else
    (if not (is_some (find (given_name r) new)) then Some (NoSuch r.table r.new) else
    (if is_given earlier (given_name r) then Some (Twice r.table r.new) else None))

abbrev pub or_else : Option PairError → Option PairError → Option PairError
or_else None other = other
or_else (Some e) other = Some e

-- the first refusal of some renames after earlier ones
abbrev pub first_refusal : Names → Names → List Rename → List Rename → Option PairError
first_refusal old new earlier [] = None
first_refusal old new earlier (r ∷ rs) =
    or_else (rename_refusal old new earlier r) (first_refusal old new (earlier ++ r ∷ []) rs)

abbrev pub table_refusal : Table → List Rename → Names → Names → Option PairError
table_refusal table renames old new = first_refusal old new [] (of_table table renames)

abbrev pub global_refusal : Program → Program → List Rename → Option PairError
global_refusal old new renames =
    table_refusal T.Global renames (map (open_name T.Global) (global_names old)) (map (open_name T.Global) (global_names new))

-- the renames of structs or of unions, by their tags
abbrev pub tag_refusal : Table → List Rename → List (List ℕ) → List (List ℕ) → List TagDef → List TagDef → Option PairError
tag_refusal table renames old_texts new_texts old new =
    table_refusal table renames (map (open_name table) (tag_names old_texts old)) (map (open_name table) (tag_names new_texts new))

-- the renames of fields or of members: a new one is in the pair of the struct or union that has the old one
abbrev pub part_refusal : Table → Table → List Rename → List (List ℕ) → List (List ℕ) → List TagDef → List TagDef → (TagDef → Option ℕ) → Option PairError
part_refusal table tags renames old_texts new_texts old new pair =
    table_refusal table renames (joined (open_parts tags old_texts) old) (joined (new_parts old_texts new_texts new pair) old)

abbrev pub struct_refusal : Program → Program → List Rename → Option PairError
struct_refusal old new renames = tag_refusal T.Struct renames old.names new.names old.types.structs new.types.structs

abbrev pub field_refusal : Program → Program → List Rename → Option PairError
field_refusal old new renames =
    part_refusal T.Field T.Struct renames old.names new.names old.types.structs new.types.structs (struct_pair old new renames)

abbrev pub union_refusal : Program → Program → List Rename → Option PairError
union_refusal old new renames = tag_refusal T.Union renames old.names new.names old.types.unions new.types.unions

abbrev pub member_refusal : Program → Program → List Rename → Option PairError
member_refusal old new renames =
    part_refusal T.Member T.Union renames old.names new.names old.types.unions new.types.unions (union_pair old new renames)

abbrev pub function_refusal : Program → Program → List Rename → Option PairError
function_refusal old new renames = table_refusal T.Function renames (function_names old) (function_names new)

abbrev pub site_refusal : Program → Program → List Rename → Option PairError
site_refusal old new renames = table_refusal T.Site renames (site_names old) (site_names new)

-- the first refusal of all renames, table by table
abbrev pub refusal_of : Program → Program → List Rename → Option PairError
refusal_of old new renames =
    or_else (global_refusal old new renames) (or_else (struct_refusal old new renames) (or_else (field_refusal old new renames) (or_else (union_refusal old new renames) (or_else (member_refusal old new renames) (or_else (function_refusal old new renames) (site_refusal old new renames))))))

abbrev pub unless_refused : Option PairError → Pairing → Result Pairing PairError
unless_refused None p = Ok p
unless_refused (Some e) p = Err e

-- two programs under renames: their pairing, or the first refusal
abbrev pub pair : Program → Program → List Rename → Result Pairing PairError
pair old new renames = unless_refused (refusal_of old new renames) (pairing_of old new renames)
