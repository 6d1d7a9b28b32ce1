-- The parts of structs, unions and objects.
use Rattle.std.specs.Prelude.{ℕ, List, [], Option, Some, None, slice_get}
use Rattle.std.specs.Option.{option_map_or}
use Rattle.c_types.specs.declared.parts.FieldDef.{FieldDef}
use Rattle.c_types.specs.declared.parts.Parts.{Parts}
use Rattle.c_types.specs.declared.parts.Ty.{Ty}
use Rattle.c_types.specs.declared.parts.Ty.TheVariants as T
use Rattle.c_types.specs.Layout.{shape_of, size_of}
use Rattle.c_types.specs.Tables.{fields_of, members_of}
use Rattle.src_tree.specs.declared.value.Value.{Value}
use Rattle.src_tree.specs.declared.value.Value.TheOpen.{Union}
use Rattle.src_tree.specs.declared.value.Object.{Object}
use Rattle.src_meaning.specs.Paths.{Layer}
use Rattle.src_meaning.specs.ValueBytes as bytes

-- the fields of a struct or the members of a union; no other type has any
abbrev pub fields_in : Parts → Option Ty → List FieldDef
fields_in p (Some (T.Struct s)) = fields_of p s
fields_in p (Some (T.Union u)) = members_of p u
fields_in p _ = []

-- values as the fields of a type
abbrev pub struct_bytes : Parts → bytes.Addresses → ℕ → List Value → List ℕ
struct_bytes p a t vs =
    bytes.fields_bytes (shape_of p) (bytes.bytes_of p a) (size_of p t) (fields_in p (slice_get p.types t)) vs 0

-- the number of a union's active member
abbrev pub active_in : Layer → Option ℕ
active_in (Union active body) = Some active
active_in _ = None

-- the value of a union's active member; any other value is its own
abbrev pub body_in : Value → Layer → Value
body_in v (Union active body) = body
body_in v _ = v

-- the bytes of an object at these addresses; none where it is dead
abbrev pub live_bytes : Parts → bytes.Addresses → Object → List ℕ
live_bytes p a x = option_map_or (λ vs. bytes.elements_bytes p a x.elem vs) x.elements []
