-- Whether a table of types has the structs, unions and arrays of a text.
use Rattle.std.specs.Prelude.{ℕ, ◌-◌, ◌^◌, nat_eq, Bool, true, false, ◌&&◌, List, [], ◌∷◌, Option, Some, None, Ok, Err, slice_get, slice_set, if◌then◌else◌}
use Rattle.std.specs.Option.{option_map_or}
use Rattle.std.specs.List.{list_any}
use Rattle.c_types.specs.declared.parts.Ty.{Ty}
use Rattle.c_types.specs.declared.parts.Ty.TheVariants as T
use Rattle.c_types.specs.declared.parts.FieldDef.{FieldDef}
use Rattle.c_types.specs.declared.parts.TagDef.{TagDef}
use Rattle.c_types.specs.declared.parts.Parts.{Parts}
use Rattle.c_ast.specs.declared.types.TagKind.{TagKind}
use Rattle.c_ast.specs.declared.types.TagKind.TheVariants.{Struct, Union}
use Rattle.c_ast.specs.Trees.{Text, Object, Declaration, Record, Global, Prototype, Definition}
use Rattle.c_check_scope.specs.Numbers.{same_type}
use Rattle.c_check_scope.specs.Operations.{int_type}
use Rattle.c_check_scope.specs.declared.scope.Scope.{Scope}
use Rattle.c_check_scope.specs.declared.scope.Tag.{Tag}
use Rattle.c_check_scope.specs.Rules.{Checked}
use Rattle.c_check_scope.specs.Names.{number_named, tag_of}
use Rattle.c_check_expr.specs.Denoted.{number}
use Rattle.c_check_expr.specs.declared.objects.ObjectType.{ObjectType}
use Rattle.c_check_decl.specs.Records.{name_number, small_type, record_fields}
use Rattle.c_check_table.specs.declared.tally.Tally.{Tally}

-- ---- arrays

abbrev pub has_type : Parts → Ty → Bool
has_type p ty = list_any (same_type ty) p.types

abbrev pub has_array_of : Parts → ℕ → Option ℕ → Bool
has_array_of p t None = true
has_array_of p t (Some n) = has_type p (T.Array t n)

-- an array that breaks a rule isn't asked for
unfoldable pub has_array : Parts → Checked ObjectType → Bool
has_array p (Err r) = true
has_array p (Ok ty) = has_array_of p ty.element ty.count

abbrev pub has_arrays : Scope → List Object → Bool
has_arrays scope [] = true
has_arrays scope (o ∷ os) = has_array scope.types (small_type scope o) && has_arrays scope os

-- ---- structs and unions

abbrev pub same_fields : List FieldDef → List FieldDef → Bool
same_fields [] [] = true
same_fields (a ∷ fs) (b ∷ gs) = nat_eq a.name b.name && (nat_eq a.ty b.ty && same_fields fs gs)
same_fields _ _ = false

-- one that breaks a rule has no field that a text can name
abbrev pub nameless : Parts → FieldDef
nameless p = record { name = 2 ^ 32 - 1; ty = number p int_type }

unfoldable pub has_fields : Parts → List FieldDef → Checked (List FieldDef) → Bool
has_fields p fs (Ok gs) = same_fields fs gs
has_fields p fs (Err r) = same_fields fs (nameless p ∷ [])

abbrev pub entries : Parts → TagKind → List TagDef
entries p Struct = p.structs
entries p Union = p.unions

-- the entry of a tag has its number in the text as its name, and those fields
unfoldable pub has_entry : Parts → Tag → ℕ → Checked (List FieldDef) → Bool
has_entry p tag x fs =
    option_map_or (λ d. nat_eq d.tag x && has_fields p d.fields fs) (slice_get (entries p tag.kind) tag.number) false

-- int source, int type and int arg[6], whose names are those of the numbers 1 to 3
abbrev pub message_fields_of : ℕ → ℕ → List FieldDef
message_fields_of int array =
    record { name = 1; ty = int } ∷ (record { name = 2; ty = int } ∷ (record { name = 3; ty = array } ∷ []))

abbrev pub message_fields : Parts → List FieldDef
message_fields p = message_fields_of (number p int_type) (number p (T.Array (number p int_type) 6))

abbrev pub has_int_array : Parts → Bool
has_int_array p = has_type p (T.Array (number p int_type) 6)

abbrev pub has_message : Parts → Bool
has_message p =
    has_int_array p && option_map_or (λ d. nat_eq d.tag 0 && same_fields d.fields (message_fields p)) (slice_get p.structs 0) false

-- ---- along a text

abbrev pub declare_number : Scope → Option (Option Tag) → ℕ → Scope
declare_number scope (Some (Some tag)) k =
    record scope { tags = slice_set scope.tags k (Some (record { kind = tag.kind; number = tag.number; is_declared = true })) }
declare_number scope _ k = scope

abbrev pub declare_named : Scope → Option ℕ → Scope
declare_named scope None = scope
declare_named scope (Some k) = declare_number scope (slice_get scope.tags k) k

-- a tag is declared from here on
unfoldable pub declare_tag : Scope → Text → Scope
declare_tag scope x = declare_named scope (number_named scope.names x)

-- the first declaration of a tag
unfoldable pub has_record : Scope → Tag → Text → TagKind → List Object → Bool
has_record scope tag x kind os =
    has_entry scope.types tag (name_number scope x) (record_fields scope kind os) && has_arrays scope os

abbrev pub tally : Scope → Bool → Tally
tally scope holds = record { scope = scope; holds = holds }

abbrev pub tallied_tag : Tally → TagKind → Text → List Object → Option Tag → Tally
tallied_tag t kind x os None = tally t.scope false
tallied_tag t kind x os (Some tag) =
    if tag.is_declared
    then t
    else tally (declare_tag t.scope x) (t.holds && has_record t.scope tag x kind os)

-- The first declaration of a tag has its entry; another one breaks a rule
unfoldable pub tallied : Tally → Declaration → Tally
tallied t (Record kind x os) = tallied_tag t kind x os (tag_of t.scope x)
tallied t (Global o i) = tally t.scope (t.holds && has_array t.scope.types (small_type t.scope o))
tallied t (Prototype r x ps) = t
tallied t (Definition r x ps ss) = t

abbrev pub tallied_all : Tally → List Declaration → Tally
tallied_all t [] = t
tallied_all t (d ∷ ds) = tallied_all (tallied t d) ds

-- before a text
abbrev pub first_tally : Scope → Tally
first_tally scope = tally scope (has_message scope.types)

-- from the scope before the text on
abbrev pub has_records : Scope → List Declaration → Bool
has_records scope ds = (tallied_all (first_tally scope) ds).holds
