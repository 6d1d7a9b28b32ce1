-- Which entries of two programs pair under some renames.
use Rattle.std.specs.Prelude.{ℕ, Bool, true, false, ◌&&◌, ◌==◌, nat_eq, if◌then◌else◌, List, [], ◌∷◌, ◌++◌, map, filter, is_some, Option, Some, None, slice_get}
use Rattle.std.specs.List.{before_first}
use Rattle.lu_spec.specs.Then.{then_option}
use Rattle.c_types.specs.declared.parts.TagDef.{TagDef}
use Rattle.c_types.specs.declared.parts.FieldDef.{FieldDef}
use Rattle.c_types.specs.Tables.{fields_in}
use Rattle.src_tree.specs.declared.program.Program.{Program}
use Rattle.src_tree.specs.declared.program.Site.{Site}
use Rattle.lu_image.specs.declared.rename.Table.{Table}
use Rattle.lu_image.specs.declared.rename.Table.TheVariants as T
use Rattle.lu_image.specs.declared.rename.Rename.{Rename}
use Rattle.lu_image.specs.declared.pairing.Dangling.TheVariants.{Refuse}
use Rattle.lu_image.specs.declared.pairing.Outline.{Outline}
use Rattle.lu_image.specs.declared.pairing.Pairing.{Pairing}
use Rattle.lu_image.specs.Renaming.{is_in_table}
use Rattle.lu_image.specs.Names.{Names, entry_at, find, global_names, function_names, struct_names, union_names, part_names, site_name, site_names}
use Rattle.lu_image.specs.Correspondence.{corresponds}

-- the renames of a table
abbrev pub of_table : Table → List Rename → List Rename
of_table table renames = filter (is_in_table table) renames

-- a text up to its first dot
abbrev pub before_dot : List ℕ → List ℕ
before_dot text = before_first (λ b. b == 46) text

abbrev pub is_of_part : Table → Bool
is_of_part T.Field = true
is_of_part T.Member = true
is_of_part _ = false

-- the new name that a rename gives; for a field or a member it stands behind the tag of the old name
abbrev pub given_name : Rename → List ℕ
given_name r = if is_of_part r.table then before_dot r.old ++ 46 ∷ r.new else r.new

abbrev pub old_names : List Rename → Names
old_names renames = map (λ r. Some r.old) renames

abbrev pub given_names : List Rename → Names
given_names renames = map (λ r. Some (given_name r)) renames

-- the new name that the renames give an old one
abbrev pub renamed : List Rename → List ℕ → Option (List ℕ)
renamed renames own = then_option (find own (old_names renames)) (entry_at (given_names renames))

abbrev pub is_given : List Rename → List ℕ → Bool
is_given renames name = is_some (find name (given_names renames))

-- the new entry of a name, unless a rename gives that name
abbrev pub find_free : List Rename → Names → List ℕ → Option ℕ
find_free renames new name = if is_given renames name then None else find name new

abbrev pub pair_unless : List Rename → Names → Option (List ℕ) → Option (List ℕ) → Option ℕ
pair_unless renames new None wanted = then_option wanted (find_free renames new)
pair_unless renames new (Some name) wanted = find name new

-- An entry whose own name is renamed pairs only as its rename says. Any other pairs with the new entry of the name that
-- is wanted for it, unless a rename gives that name.
abbrev pub pair_by : List Rename → Names → Option (List ℕ) → Option (List ℕ) → Option ℕ
pair_by renames new own wanted = pair_unless renames new (then_option own (renamed renames)) wanted

-- entries pair by their names
abbrev pub pair_names : List Rename → Names → Names → List (Option ℕ)
pair_names renames old new = map (λ name. pair_by renames new name name) old

abbrev pub global_pairs : Program → Program → List Rename → List (Option ℕ)
global_pairs old new renames = pair_names (of_table T.Global renames) (global_names old) (global_names new)

-- the pair of a struct or a union by its tag
abbrev pub tag_pair : List Rename → List (List ℕ) → Names → TagDef → Option ℕ
tag_pair renames texts new tag = pair_by renames new (slice_get texts tag.tag) (slice_get texts tag.tag)

abbrev pub struct_pair : Program → Program → List Rename → TagDef → Option ℕ
struct_pair old new renames = tag_pair (of_table T.Struct renames) old.names (struct_names new)

abbrev pub union_pair : Program → Program → List Rename → TagDef → Option ℕ
union_pair old new renames = tag_pair (of_table T.Union renames) old.names (union_names new)

abbrev pub struct_pairs : Program → Program → List Rename → List (Option ℕ)
struct_pairs old new renames = map (struct_pair old new renames) old.types.structs

abbrev pub union_pairs : Program → Program → List Rename → List (Option ℕ)
union_pairs old new renames = map (union_pair old new renames) old.types.unions

abbrev pub function_pairs : Program → Program → List Rename → List (Option ℕ)
function_pairs old new renames = pair_names (of_table T.Function renames) (function_names old) (function_names new)

-- the fields or members of the new struct or union of this number, if there is one
abbrev pub paired_parts : List TagDef → Option ℕ → List FieldDef
paired_parts tags pair = fields_in (then_option pair (slice_get tags))

-- The fields of an old struct and of its pair pair by name, those of the pair being named behind the old tag. So do the
-- members of unions.
abbrev pub part_pairs : List Rename → List (List ℕ) → List (List ℕ) → List TagDef → (TagDef → Option ℕ) → TagDef → List (Option ℕ)
part_pairs renames old new new_tags pair tag =
    pair_names renames (part_names old (slice_get old tag.tag) tag.fields) (part_names new (slice_get old tag.tag) (paired_parts new_tags (pair tag)))

abbrev pub field_pairs : Program → Program → List Rename → List (List (Option ℕ))
field_pairs old new renames =
    map (part_pairs (of_table T.Field renames) old.names new.names new.types.structs (struct_pair old new renames)) old.types.structs

abbrev pub member_pairs : Program → Program → List Rename → List (List (Option ℕ))
member_pairs old new renames =
    map (part_pairs (of_table T.Member renames) old.names new.names new.types.unions (union_pair old new renames)) old.types.unions

-- the types that the sites of a function allocate, in the order of the text
abbrev pub site_elements : List Site → ℕ → List ℕ
site_elements sites f = map (λ s. s.elem) (filter (λ s. nat_eq s.function f) sites)

abbrev pub all_correspond : (ℕ → ℕ → Bool) → List ℕ → List ℕ → Bool
all_correspond same [] [] = true
all_correspond same (t ∷ ts) (u ∷ us) = same t u && all_correspond same ts us
all_correspond same _ _ = false

-- whether two types correspond by these pairs of structs and unions
abbrev pub types_correspond : Program → Program → List Rename → ℕ → ℕ → Bool
types_correspond old new renames =
    corresponds old.types new.types (struct_pairs old new renames) (union_pairs old new renames)

-- the pair of a function, if both have the same number of sites and the types that they allocate correspond in order
abbrev pub partner_if : (ℕ → ℕ → Bool) → (ℕ → List ℕ) → (ℕ → List ℕ) → ℕ → ℕ → Option ℕ
partner_if same old new f g = if all_correspond same (old f) (new g) then Some g else None

abbrev pub site_partner : Program → Program → List Rename → ℕ → Option ℕ
site_partner old new renames f =
    then_option (entry_at (function_pairs old new renames) f) (partner_if (types_correspond old new renames) (site_elements old.sites) (site_elements new.sites) f)

-- The k-th site of a function pairs with the k-th of such a partner.
abbrev pub wanted_site : Program → Program → List Rename → Site → Option (List ℕ)
wanted_site old new renames s =
    then_option (site_partner old new renames s.function) (λ g. site_name (entry_at (function_names new) g) s.ordinal)

abbrev pub pair_site : Program → Program → List Rename → Site → Option ℕ
pair_site old new renames s =
    pair_by (of_table T.Site renames) (site_names new) (site_name (entry_at (function_names old) s.function) s.ordinal) (wanted_site old new renames s)

abbrev pub site_pairs : Program → Program → List Rename → List (Option ℕ)
site_pairs old new renames = map (pair_site old new renames) old.sites

-- what an update needs of a program
abbrev pub outline_of : Program → Outline
outline_of p = record {
  types = p.types;
  globals = map (λ g. g.ty) p.globals;
  functions = map (λ f. record { result = f.ret; params = f.params }) p.functions;
  sites = map (λ s. s.elem) p.sites;
}

-- two programs under renames, with no handler
abbrev pub pairing_of : Program → Program → List Rename → Pairing
pairing_of old new renames = record {
  globals = global_pairs old new renames;
  structs = struct_pairs old new renames;
  fields = field_pairs old new renames;
  unions = union_pairs old new renames;
  members = member_pairs old new renames;
  functions = function_pairs old new renames;
  sites = site_pairs old new renames;
  old = outline_of old;
  new = outline_of new;
  dangling = Refuse;
  handlers = [];
  after = None;
}
