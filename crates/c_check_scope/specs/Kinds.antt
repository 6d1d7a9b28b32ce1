-- Kinds of types.
use Rattle.std.specs.Prelude.{ℕ, nat_eq, Bool, true, false, Option, Some, None, if◌then◌else◌}
use Rattle.c_types.specs.declared.parts.IntKind.{IntKind}
use Rattle.c_types.specs.declared.parts.Ty.{Ty}
use Rattle.c_types.specs.declared.parts.Ty.TheVariants.{Int, Pointer, VoidPointer, Function, Struct, Union, Array}

-- the kind of an integer type
unfoldable pub kind_of : Ty → Option IntKind
kind_of (Int kind) = Some kind
kind_of _ = None

-- pointers to objects, `void *` and function pointers
unfoldable pub is_pointer : Ty → Bool
is_pointer (Pointer t) = true
is_pointer VoidPointer = true
is_pointer (Function g) = true
is_pointer _ = false

-- integers and pointers
unfoldable pub is_scalar : Ty → Bool
is_scalar (Int kind) = true
is_scalar (Pointer t) = true
is_scalar VoidPointer = true
is_scalar (Function g) = true
is_scalar _ = false

unfoldable pub is_record : Ty → Bool
is_record (Struct s) = true
is_record (Union u) = true
is_record _ = false

-- the pointer type that both are
unfoldable pub one_pointer : Ty → Ty → Option Ty
one_pointer (Pointer t) (Pointer u) = if nat_eq t u then Some (Pointer t) else None
one_pointer VoidPointer VoidPointer = Some VoidPointer
one_pointer (Function f) (Function g) = if nat_eq f g then Some (Function f) else None
one_pointer _ _ = None

-- the pointer type that both are, other than a function pointer
unfoldable pub one_data_pointer : Ty → Ty → Option Ty
one_data_pointer (Pointer t) (Pointer u) = if nat_eq t u then Some (Pointer t) else None
one_data_pointer VoidPointer VoidPointer = Some VoidPointer
one_data_pointer _ _ = None

-- `void *` where one is it and the other a pointer to an object
unfoldable pub void_and_object : Ty → Ty → Option Ty
void_and_object (Pointer t) VoidPointer = Some VoidPointer
void_and_object VoidPointer (Pointer t) = Some VoidPointer
void_and_object _ _ = None

-- the type of an array's elements
unfoldable pub element_of : Ty → Option ℕ
element_of (Array t n) = Some t
element_of _ = None

-- the type to which a pointer to an object points
unfoldable pub target_of : Ty → Option ℕ
target_of (Pointer t) = Some t
target_of _ = None

-- the signature of a function pointer
unfoldable pub signature_of : Ty → Option ℕ
signature_of (Function g) = Some g
signature_of _ = None
