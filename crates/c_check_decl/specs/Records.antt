-- Structs and unions as they are declared: their fields, or the rules that they break.
use Rattle.std.specs.Prelude.{ℕ, ◌*◌, nat_lt, not, Bool, true, false, List, [], ◌∷◌, ◌++◌, length, Option, Some, None, is_some, Ok, Err, if◌then◌else◌}
use Rattle.std.specs.Option.{option_map_or}
use Rattle.lu_spec.specs.Then.{then_do}
use Rattle.c_types.specs.declared.parts.FieldDef.{FieldDef}
use Rattle.c_types.specs.declared.parts.Parts.{Parts}
use Rattle.c_types.specs.declared.shape.Shape.{Shape}
use Rattle.c_types.specs.Layout.{greatest, Shapes, shape_of, struct_shape, union_shape}
use Rattle.c_ast.specs.declared.types.TagKind.{TagKind}
use Rattle.c_ast.specs.declared.types.TagKind.TheVariants.{Struct, Union}
use Rattle.c_ast.specs.Trees.{Text, Object}
use Rattle.c_check_scope.specs.declared.scope.Scope.{Scope}
use Rattle.c_check_scope.specs.declared.rule.Rule.{Rule}
use Rattle.c_check_scope.specs.declared.rule.Rule.TheVariants.{Fields, Size, TooMany}
use Rattle.c_check_scope.specs.Rules.{Checked, both, broken, only}
use Rattle.c_check_scope.specs.Names.{number_named, with_name, object_name}
use Rattle.c_check_expr.specs.declared.objects.ObjectType.{ObjectType}
use Rattle.c_check_expr.specs.Declarators.{object_type, object_number}

-- ---- fields and globals

-- what isn't an array is one element
abbrev pub elements : Option ℕ → ℕ
elements None = 1
elements (Some n) = n

-- its bytes
unfoldable pub object_size : Shapes → ObjectType → ℕ
object_size known ty = (known ty.element).size * elements ty.count

-- of at most 1,048,576 bytes
unfoldable pub small : Shapes → Checked ObjectType → Checked ObjectType
small known ty = then_do ty (λ t. if nat_lt greatest (object_size known t) then Err (only Size) else Ok t)

-- the type of a field or global
unfoldable pub small_type : Scope → Object → Checked ObjectType
small_type scope o = small (shape_of scope.types) (object_type scope o)

-- ---- fields

-- the number of a name; 0 where the text doesn't have it
unfoldable pub name_number : Scope → Text → ℕ
name_number scope x = option_map_or (λ k. k) (number_named scope.names x) 0

unfoldable pub field : Scope → Object → Checked FieldDef
field scope o =
    then_do (small_type scope o) (λ t. Ok (record { name = name_number scope (object_name o); ty = object_number scope.types t }))

unfoldable pub one_more : Checked (List FieldDef) → Checked FieldDef → Checked (List FieldDef)
one_more fs f = then_do (both fs f) (λ x. Ok (x.0 ++ (x.1 ∷ [])))

-- fields behind others
abbrev pub fields_after : Scope → Checked (List FieldDef) → List Object → Checked (List FieldDef)
fields_after scope done [] = done
fields_after scope done (o ∷ os) = fields_after scope (one_more done (field scope o)) os

-- ---- their names

-- none has the name of an earlier one, where those before have these names
abbrev pub differ_after : List Text → List Object → Bool
differ_after seen [] = true
differ_after seen (o ∷ os) =
    if is_some (number_named seen (object_name o)) then false else differ_after (with_name seen (object_name o)) os

-- at least one field, and no name twice
abbrev pub well_named : List Object → Bool
well_named [] = false
well_named (o ∷ os) = differ_after [] (o ∷ os)

-- ---- structs and unions

abbrev pub record_shape : Shapes → TagKind → List FieldDef → Shape
record_shape known Struct fields = struct_shape known fields
record_shape known Union members = union_shape known members

-- of at most 1,048,576 bytes
unfoldable pub small_record : Shapes → TagKind → Checked (List FieldDef) → Checked (List FieldDef)
small_record known kind fs =
    then_do fs (λ l. if nat_lt greatest (record_shape known kind l).size then Err (only Size) else Ok l)

-- what is judged, with one more rule
unfoldable pub with_rule : {A : Type 0} → Bool → Rule → Checked A → Checked A
with_rule keeps r a = if keeps then a else Err (broken (only r) a)

-- at most 4,096 fields
abbrev pub few : List Object → Bool
few os = not (nat_lt 4096 (length os))

-- the fields of a struct or union, of which each is judged
unfoldable pub judged_fields : Shapes → TagKind → List Object → Checked (List FieldDef) → Checked (List FieldDef)
judged_fields known kind os fs =
    with_rule (well_named os) Fields (with_rule (few os) TooMany (small_record known kind fs))

-- the fields of a struct or union, or the rules that they break
unfoldable pub record_fields : Scope → TagKind → List Object → Checked (List FieldDef)
record_fields scope kind os =
    judged_fields (shape_of scope.types) kind os (fields_after scope (Ok []) os)
