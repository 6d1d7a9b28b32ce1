-- The lines that say which entries of two programs pair.
use Rattle.std.specs.Prelude.{ℕ, List, [], ◌∷◌, ◌++◌, map, Option, Some, None, codes, slice_get}
use Rattle.lu_spec.specs.Then.{then_option}
use Rattle.lu_lines.specs.Line.{Text, further_words}
use Rattle.c_types.specs.declared.parts.TagDef.{TagDef}
use Rattle.c_types.specs.declared.parts.FieldDef.{FieldDef}
use Rattle.src_tree.specs.declared.program.Program.{Program}
use Rattle.src_tree.specs.declared.program.Site.{Site}
use Rattle.lu_image.specs.declared.pairing.Pairing.{Pairing}
use Rattle.lu_image.specs.Names.{Names, entry_at, full_name, site_name, global_names, function_names, struct_names, union_names, part_names, site_names}

-- ---- words

-- an entry's name; one whose number names no text shows no bytes
abbrev pub name_text : Option Text → Text
name_text None = []
name_text (Some name) = name

-- the name of the new entry that pairs with an old one, or `-`
abbrev pub pair_text : Names → Option ℕ → Text
pair_text new None = codes "-"
pair_text new (Some number) = name_text (entry_at new number)

-- a field's or a member's name behind the tag of that number
abbrev pub part_text : List Text → ℕ → FieldDef → Text
part_text texts tag field = name_text (full_name (slice_get texts tag) (slice_get texts field.name))

-- an allocation's name
abbrev pub site_text : Program → Site → Text
site_text p site = name_text (site_name (entry_at (function_names p) site.function) site.ordinal)

-- the names of the fields of a struct or the members of a union, each behind its tag
abbrev pub names_in : List Text → Option TagDef → Names
names_in texts None = []
names_in texts (Some tag) = part_names texts (slice_get texts tag.tag) tag.fields

-- those of each struct or union
abbrev pub names_of_parts : List Text → List TagDef → List Names
names_of_parts texts tags = map (λ tag. names_in texts (Some tag)) tags

-- those of the new struct or union that pairs with each old one
abbrev pub names_of_paired : List Text → List TagDef → List (Option ℕ) → List Names
names_of_paired texts tags pairs = map (λ pair. names_in texts (then_option pair (slice_get tags))) pairs

-- the names of the fields of each struct of a program
abbrev pub field_names : Program → List Names
field_names p = names_of_parts p.names p.types.structs

-- those of the new struct that pairs with each old one
abbrev pub paired_fields : Program → Pairing → List Names
paired_fields new p = names_of_paired new.names new.types.structs p.structs

-- the names of the members of each union of a program
abbrev pub member_names : Program → List Names
member_names p = names_of_parts p.names p.types.unions

-- those of the new union that pairs with each old one
abbrev pub paired_members : Program → Pairing → List Names
paired_members new p = names_of_paired new.names new.types.unions p.unions

-- ---- lines

-- pair UPDATE KIND OLD NEW
abbrev pub pair_line : Text → Text → Text → Text → Text
pair_line update kind old new = codes "pair" ++ further_words (update ∷ kind ∷ old ∷ new ∷ [])

-- a line for each old entry of a kind, in order: of the old names, the new names, and the pair of each old entry
abbrev pub entry_lines : Text → Text → Names → Names → List (Option ℕ) → Text
entry_lines update kind (name ∷ old) new (pair ∷ pairs) =
    pair_line update kind (name_text name) (pair_text new pair) ++ entry_lines update kind old new pairs
entry_lines update kind _ new _ = []

-- the lines of the fields of each struct in turn, or of the members of each union
abbrev pub part_lines : Text → Text → List Names → List Names → List (List (Option ℕ)) → Text
part_lines update kind (old ∷ olds) (new ∷ news) (pairs ∷ others) =
    entry_lines update kind old new pairs ++ part_lines update kind olds news others
part_lines update kind _ _ _ = []

-- the structs, and then their fields
abbrev pub struct_lines : Text → Program → Program → Pairing → Text
struct_lines update old new p =
    entry_lines update (codes "struct") (struct_names old) (struct_names new) p.structs
    ++ part_lines update (codes "field") (field_names old) (paired_fields new p) p.fields

-- the unions, and then their members
abbrev pub union_lines : Text → Program → Program → Pairing → Text
union_lines update old new p =
    entry_lines update (codes "union") (union_names old) (union_names new) p.unions
    ++ part_lines update (codes "member") (member_names old) (paired_members new p) p.members

-- all lines of an update, kind by kind
abbrev pub pairing_text : Text → Program → Program → Pairing → Text
pairing_text update old new p =
    entry_lines update (codes "global") (global_names old) (global_names new) p.globals
    ++ struct_lines update old new p
    ++ union_lines update old new p
    ++ entry_lines update (codes "function") (function_names old) (function_names new) p.functions
    ++ entry_lines update (codes "site") (site_names old) (site_names new) p.sites
