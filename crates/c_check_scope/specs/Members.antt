-- The fields of structs and members of unions by name.
use Rattle.std.specs.Prelude.{ℕ, nat_eq, Bool, true, false, List, Option, Some, None, position, slice_get}
use Rattle.std.specs.Option.{option_map}
use Rattle.lu_spec.specs.Then.{then_option}
use Rattle.c_types.specs.declared.parts.Ty.{Ty}
use Rattle.c_types.specs.declared.parts.Ty.TheVariants.{Struct, Union}
use Rattle.c_types.specs.declared.parts.FieldDef.{FieldDef}
use Rattle.c_types.specs.declared.parts.Parts.{Parts}
use Rattle.c_types.specs.Tables.{fields_of, members_of}
use Rattle.c_check_scope.specs.declared.members.Part.{Part}

abbrev pub part_at : Bool → List FieldDef → ℕ → Option Part
part_at in_union fields k =
    option_map (λ f. record { in_union = in_union; index = k; ty = f.ty }) (slice_get fields k)

-- the first field of that name
unfoldable pub part_named : Bool → List FieldDef → ℕ → Option Part
part_named in_union fields name =
    then_option (position (λ f. nat_eq f.name name) fields) (part_at in_union fields)

-- the field or member that a type has by that name
unfoldable pub part_of : Parts → Ty → ℕ → Option Part
part_of p (Struct s) name = part_named false (fields_of p s) name
part_of p (Union u) name = part_named true (members_of p u) name
part_of p _ name = None
