-- Which types convert, unwritten and by a cast.
use Rattle.std.specs.Prelude.{ℕ, nat_eq, Bool, true, false, ◌&&◌, ◌||◌, is_some}
use Rattle.c_types.specs.declared.parts.Ty.{Ty}
use Rattle.c_types.specs.declared.parts.Ty.TheVariants.{Int, Struct, Union}
use Rattle.c_check_scope.specs.declared.operand.Operand.{Operand}
use Rattle.c_check_scope.specs.Kinds.{is_pointer, one_pointer, void_and_object}

unfoldable pub are_integers : Ty → Ty → Bool
are_integers (Int i) (Int j) = true
are_integers _ _ = false

-- the struct or union that both are
unfoldable pub one_record : Ty → Ty → Bool
one_record (Struct s) (Struct r) = nat_eq s r
one_record (Union u) (Union v) = nat_eq u v
one_record _ _ = false

-- A cast: among integer types, and between `void *` and pointers to objects.
unfoldable pub casts : Ty → Ty → Bool
casts from to = are_integers from to || is_some (void_and_object from to)

-- A conversion that isn't written: what a cast may do, a type to itself, and the literal 0 to a pointer.
unfoldable pub converts : Operand → Ty → Bool
converts from to =
    casts from.ty to || (is_some (one_pointer from.ty to) || (one_record from.ty to || from.is_null && is_pointer to))
