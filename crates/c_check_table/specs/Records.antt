-- The structs and unions of a text, and the arrays that its fields and globals are, along the text.
use Rattle.std.specs.Prelude.{ℕ, List, [], ◌∷◌, ◌++◌, length, Option, Some, None, Ok, Err, slice_set, if◌then◌else◌}
use Rattle.c_types.specs.declared.parts.Ty.TheVariants as T
use Rattle.c_types.specs.declared.parts.FieldDef.{FieldDef}
use Rattle.c_types.specs.declared.parts.TagDef.{TagDef}
use Rattle.c_types.specs.declared.shape.Shape.{Shape}
use Rattle.c_types.specs.Layout.{shape}
use Rattle.c_ast.specs.declared.token.Number.{Number}
use Rattle.c_ast.specs.declared.types.TagKind.{TagKind}
use Rattle.c_ast.specs.declared.types.TagKind.TheVariants.{Struct, Union}
use Rattle.c_ast.specs.Trees.{Text, Object, Data, Pointer, Declaration, Record, Global, Prototype, Definition}
use Rattle.c_check_scope.specs.Operations.{int_type}
use Rattle.c_check_scope.specs.declared.scope.Scope.{Scope}
use Rattle.c_check_scope.specs.declared.scope.Tag.{Tag}
use Rattle.c_check_scope.specs.Rules.{Checked}
use Rattle.c_check_scope.specs.Names.{tag_of, object_name}
use Rattle.c_check_expr.specs.Typing.{named}
use Rattle.c_check_expr.specs.declared.objects.ObjectType.{ObjectType}
use Rattle.c_check_expr.specs.Declarators.{with_length}
use Rattle.c_check_decl.specs.Records.{name_number, object_size, small, one_more, judged_fields, record_shape}
use Rattle.c_check_table.specs.Tally.{declare_tag, nameless, message_fields_of}
use Rattle.c_check_table.specs.declared.draft.Draft.{Draft}
use Rattle.c_check_table.specs.Drafts.{place_of, with_type, shapes}
use Rattle.c_check_table.specs.Signatures.{heading_in}

-- ---- fields and globals

abbrev pub lengthened : Option Number → Draft × Checked ℕ → Draft × Checked ObjectType
lengthened n r = (r.0, with_length r.1 n)

unfoldable pub object_in : Scope → Draft → Object → Draft × Checked ObjectType
object_in scope d (Data t x n) = (d, with_length (named scope t) n)
object_in scope d (Pointer t x n ps) = lengthened n (heading_in scope d t ps)

abbrev pub array_of : Draft → ℕ → Option ℕ → Draft
array_of d t None = d
array_of d t (Some n) = with_type d (T.Array t n) (shape (object_size (shapes d) (record { element = t; count = Some n })) (shapes d t).align)

-- an array is a type of its own
unfoldable pub with_array : Draft → ObjectType → Draft
with_array d ty = array_of d ty.element ty.count

abbrev pub counted : Draft → ℕ → Option ℕ → ℕ
counted d t None = t
counted d t (Some n) = place_of d.types (T.Array t n)

-- the number of its type
unfoldable pub object_place : Draft → ObjectType → ℕ
object_place d ty = counted d ty.element ty.count

-- one that breaks a rule adds nothing
unfoldable pub array_in : Draft → Checked ObjectType → Draft × Checked ℕ
array_in d (Err r) = (d, Err r)
array_in d (Ok ty) = (with_array d ty, Ok (object_place d ty))

abbrev pub small_in : Draft × Checked ObjectType → Draft × Checked ℕ
small_in r = array_in r.0 (small (shapes r.0) r.1)

-- a field or global: what it adds, and the number of its type
unfoldable pub type_in : Scope → Draft → Object → Draft × Checked ℕ
type_in scope d o = small_in (object_in scope d o)

-- ---- fields

unfoldable pub named_field : Scope → Object → Checked ℕ → Checked FieldDef
named_field scope o (Err r) = Err r
named_field scope o (Ok t) = Ok (record { name = name_number scope (object_name o); ty = t })

-- behind others
abbrev pub fields_in : Scope → Draft → Checked (List FieldDef) → List Object → Draft × Checked (List FieldDef)
fields_in scope d done [] = (d, done)
fields_in scope d done (o ∷ os) =
    fields_in scope (type_in scope d o).0 (one_more done (named_field scope o (type_in scope d o).1)) os

-- ---- structs and unions

-- the next one, which has this size and alignment
unfoldable pub with_entry : Draft → TagKind → TagDef → Shape → Draft
with_entry d Struct def s =
    record d { structs = d.structs ++ (def ∷ []); shapes = slice_set d.shapes (place_of d.types (T.Struct (length d.structs))) s }
with_entry d Union def s =
    record d { unions = d.unions ++ (def ∷ []); shapes = slice_set d.shapes (place_of d.types (T.Union (length d.unions))) s }

-- one that breaks a rule has a field that no text can name
unfoldable pub or_nameless : Scope → Checked (List FieldDef) → List FieldDef
or_nameless scope (Ok fs) = fs
or_nameless scope (Err r) = nameless scope.types ∷ []

unfoldable pub with_fields : Draft → TagKind → ℕ → List FieldDef → Draft
with_fields d kind x fs = with_entry d kind (record { tag = x; fields = fs }) (record_shape (shapes d) kind fs)

abbrev pub judged_in : Scope → TagKind → ℕ → List Object → Draft × Checked (List FieldDef) → Draft
judged_in scope kind x os r =
    with_fields r.0 kind x (or_nameless scope (judged_fields (shapes r.0) kind os r.1))

-- the first declaration of a tag; another one adds nothing
abbrev pub tagged_in : Scope → Draft → TagKind → Text → List Object → Option Tag → Draft
tagged_in scope d kind x os None = d
tagged_in scope d kind x os (Some tag) =
    if tag.is_declared then d else judged_in scope kind (name_number scope x) os (fields_in scope d (Ok []) os)

abbrev pub int_place : Draft → ℕ
int_place d = place_of d.types int_type

abbrev pub six : Draft → ObjectType
six d = record { element = int_place d; count = Some 6 }

-- `struct message`, whose name has the number 0
unfoldable pub with_message : Draft → Draft
with_message d =
    with_fields (with_array d (six d)) Struct 0 (message_fields_of (int_place d) (object_place d (six d)))

-- ---- along a text

unfoldable pub in_declaration : Scope → Draft → Declaration → Draft
in_declaration scope d (Record kind x os) = tagged_in scope d kind x os (tag_of scope x)
in_declaration scope d (Global o i) = (type_in scope d o).0
in_declaration scope d (Prototype t x ps) = d
in_declaration scope d (Definition t x ps ss) = d

-- a tag is declared from its declaration on
abbrev pub scope_after : Scope → Declaration → Scope
scope_after scope (Record kind x os) = declare_tag scope x
scope_after scope (Global o i) = scope
scope_after scope (Prototype t x ps) = scope
scope_after scope (Definition t x ps ss) = scope

abbrev pub in_text : Scope → Draft → List Declaration → Draft
in_text scope d [] = d
in_text scope d (x ∷ xs) = in_text (scope_after scope x) (in_declaration scope d x) xs
