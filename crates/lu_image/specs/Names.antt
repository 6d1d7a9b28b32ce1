-- The names of a program's entries.
use Rattle.std.specs.Prelude.{ℕ, ◌+◌, Bool, false, if◌then◌else◌, List, [], ◌∷◌, ◌++◌, map, Option, Some, None, slice_get}
use Rattle.std.specs.Option.{option_map}
use Rattle.std.specs.Str.{bytes_eq}
use Rattle.std.specs.Fmt.{decimal}
use Rattle.c_types.specs.declared.parts.TagDef.{TagDef}
use Rattle.c_types.specs.declared.parts.FieldDef.{FieldDef}
use Rattle.src_tree.specs.declared.program.Program.{Program}
use Rattle.src_tree.specs.declared.program.Site.{Site}

-- the names of entries in order; one whose number names no text has none
abbrev pub Names : Type 0
Names = List (Option (List ℕ))

abbrev pub flat : {A : Type 0} → Option (Option A) → Option A
flat None = None
flat (Some x) = x

-- what stands at a place, if anything does
abbrev pub entry_at : {A : Type 0} → List (Option A) → ℕ → Option A
entry_at xs k = flat (slice_get xs k)

-- the lists of all items, one after another
abbrev pub joined : {A B : Type 0} → (A → List B) → List A → List B
joined f [] = []
joined f (x ∷ xs) = f x ++ joined f xs

abbrev pub is_named : List ℕ → Option (List ℕ) → Bool
is_named name None = false
is_named name (Some own) = bytes_eq name own

-- the place of the first entry of a name
abbrev pub find : List ℕ → Names → Option ℕ
find name [] = None
find name (x ∷ xs) = if is_named name x then Some 0 else option_map (λ k. k + 1) (find name xs)

abbrev pub global_names : Program → Names
global_names p = map (λ g. slice_get p.names g.name) p.globals

abbrev pub function_names : Program → Names
function_names p = map (λ f. slice_get p.names f.name) p.functions

-- the tags of structs or of unions
abbrev pub tag_names : List (List ℕ) → List TagDef → Names
tag_names texts tags = map (λ t. slice_get texts t.tag) tags

abbrev pub struct_names : Program → Names
struct_names p = tag_names p.names p.types.structs

abbrev pub union_names : Program → Names
union_names p = tag_names p.names p.types.unions

-- a field's or a member's name behind its tag, `tag.name`
abbrev pub full_name : Option (List ℕ) → Option (List ℕ) → Option (List ℕ)
full_name (Some tag) (Some name) = Some (tag ++ 46 ∷ name)
full_name _ _ = None

abbrev pub part_names : List (List ℕ) → Option (List ℕ) → List FieldDef → Names
part_names texts tag fields = map (λ f. full_name tag (slice_get texts f.name)) fields

-- an allocation's name, `function#number`
abbrev pub site_name : Option (List ℕ) → ℕ → Option (List ℕ)
site_name None number = None
site_name (Some function) number = Some (function ++ 35 ∷ decimal number)

abbrev pub named_sites : Names → List Site → Names
named_sites functions sites = map (λ s. site_name (entry_at functions s.function) s.ordinal) sites

abbrev pub site_names : Program → Names
site_names p = named_sites (function_names p) p.sites
