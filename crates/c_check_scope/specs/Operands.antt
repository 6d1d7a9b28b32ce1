-- The type in which two operands meet.
use Rattle.std.specs.Prelude.{Bool, ◌&&◌, Option, Some, None, if◌then◌else◌}
use Rattle.std.specs.Option.{option_map}
use Rattle.lu_spec.specs.Then.{then_option}
use Rattle.c_types.specs.declared.parts.IntKind.{IntKind}
use Rattle.c_types.specs.declared.parts.Ty.{Ty}
use Rattle.c_types.specs.declared.parts.Ty.TheVariants.{Int}
use Rattle.c_check_scope.specs.declared.operand.Operand.{Operand}
use Rattle.c_check_scope.specs.Integers.{promoted, common}
use Rattle.c_check_scope.specs.Kinds.{kind_of, is_pointer, one_pointer, one_data_pointer, void_and_object}

abbrev pub or_else : {A : Type 0} → Option A → Option A → Option A
or_else None other = other
or_else (Some a) other = Some a

-- of two integers
unfoldable pub common_of : Ty → Ty → Option IntKind
common_of a b = then_option (kind_of a) (λ i. then_option (kind_of b) (λ j. Some (common i j)))

unfoldable pub common_type : Ty → Ty → Option Ty
common_type a b = option_map Int (common_of a b)

-- the promoted type of an integer
unfoldable pub promoted_type : Ty → Option Ty
promoted_type a = option_map (λ kind. Int (promoted kind)) (kind_of a)

-- the type of a pointer beside the literal 0
unfoldable pub with_null : Operand → Operand → Option Ty
with_null p z = if is_pointer p.ty && z.is_null then Some p.ty else None

-- for the branches of `?:`: of integers the common type, of two pointers of one type that type, and beside the
-- literal 0 the pointer's type
unfoldable pub joined : Operand → Operand → Option Ty
joined a b =
    or_else (common_type a.ty b.ty) (or_else (one_pointer a.ty b.ty) (or_else (with_null a b) (with_null b a)))

-- for `==` and `!=`: the same, and of a pointer to an object and a `void *` the latter
unfoldable pub compared : Operand → Operand → Option Ty
compared a b = or_else (joined a b) (void_and_object a.ty b.ty)

-- for an order: of integers the common type, and of two pointers of one type that type
unfoldable pub ordered : Ty → Ty → Option Ty
ordered a b = or_else (common_type a b) (one_data_pointer a b)
