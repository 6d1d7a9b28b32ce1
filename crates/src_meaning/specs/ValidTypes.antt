-- Types as the rules of the language ask for them.
use Rattle.std.specs.Prelude.{ℕ, zero, suc, ◌-◌, Bool, true, false, ◌&&◌, ◌||◌, nat_eq, nat_lt, nat_le, List, [], ◌∷◌, length, Option, Some, None, slice_get}
use Rattle.std.specs.List.{list_all}
use Rattle.std.specs.Option.{option_map_or}
use Rattle.c_types.specs.declared.parts.IntKind.{IntKind}
use Rattle.c_types.specs.declared.parts.IntKind.TheVariants as K
use Rattle.c_types.specs.declared.parts.FieldDef.{FieldDef}
use Rattle.c_types.specs.declared.parts.Signature.{Signature}
use Rattle.c_types.specs.declared.parts.Ty.{Ty}
use Rattle.c_types.specs.declared.parts.Ty.TheVariants as T
use Rattle.c_types.specs.declared.parts.Parts.{Parts}
use Rattle.c_types.specs.Tables.{fields_of, members_of}

-- the type of a number
abbrev pub ty : Parts → ℕ → Option Ty
ty p t = slice_get p.types t

abbrev pub is_integer : Option Ty → Bool
is_integer (Some (T.Int kind)) = true
is_integer _ = false

abbrev pub is_int : Option Ty → Bool
is_int (Some (T.Int K.Int)) = true
is_int _ = false

abbrev pub is_unsigned_int : Option Ty → Bool
is_unsigned_int (Some (T.Int K.UInt)) = true
is_unsigned_int _ = false

abbrev pub is_long_long : Option Ty → Bool
is_long_long (Some (T.Int K.LongLong)) = true
is_long_long _ = false

-- no narrower than int
abbrev pub is_wide : IntKind → Bool
is_wide K.Int = true
is_wide K.UInt = true
is_wide K.LongLong = true
is_wide K.ULongLong = true
is_wide _ = false

-- an integer type that operators work in
abbrev pub is_promoted : Option Ty → Bool
is_promoted (Some (T.Int kind)) = is_wide kind
is_promoted _ = false

-- a pointer on which arithmetic is allowed
abbrev pub is_object_pointer : Option Ty → Bool
is_object_pointer (Some (T.Pointer t)) = true
is_object_pointer _ = false

abbrev pub is_void_pointer : Option Ty → Bool
is_void_pointer (Some T.VoidPointer) = true
is_void_pointer _ = false

abbrev pub is_function_pointer : Option Ty → Bool
is_function_pointer (Some (T.Function g)) = true
is_function_pointer _ = false

-- a promoted integer or an object pointer, `void *` among them
abbrev pub is_ordered : Option Ty → Bool
is_ordered t = is_promoted t || (is_object_pointer t || is_void_pointer t)

-- a promoted integer or any pointer
abbrev pub is_comparable : Option Ty → Bool
is_comparable t = is_ordered t || is_function_pointer t

abbrev pub is_scalar : Option Ty → Bool
is_scalar t = is_integer t || is_comparable t

-- a pointer to objects or to a function
abbrev pub is_pointer : Option Ty → Bool
is_pointer (Some (T.Pointer t)) = true
is_pointer (Some T.VoidPointer) = true
is_pointer (Some (T.Function g)) = true
is_pointer _ = false

-- a pointer to the type t
abbrev pub points_to : Option Ty → ℕ → Bool
points_to (Some (T.Pointer u)) t = nat_eq u t
points_to _ t = false

-- an array of the type t
abbrev pub is_array_of : Option Ty → ℕ → Bool
is_array_of (Some (T.Array u n)) t = nat_eq u t
is_array_of _ t = false

-- the pointer to element 0 of an array
abbrev pub is_decayed : Option Ty → Option Ty → Bool
is_decayed (Some (T.Array u n)) to = points_to to u
is_decayed _ to = false

abbrev pub is_field : List FieldDef → ℕ → ℕ → Bool
is_field fields k t = option_map_or (λ f. nat_eq f.ty t) (slice_get fields k) false

-- field k of a struct has the type t
abbrev pub is_field_of : Parts → Option Ty → ℕ → ℕ → Bool
is_field_of p (Some (T.Struct s)) k t = is_field (fields_of p s) k t
is_field_of p _ k t = false

-- member k of a union has the type t
abbrev pub is_member_of : Parts → Option Ty → ℕ → ℕ → Bool
is_member_of p (Some (T.Union u)) k t = is_field (members_of p u) k t
is_member_of p _ k t = false

-- what converts without a cast: integers, a type to itself, `void *` to and from object pointers
abbrev pub converts : Option Ty → Option Ty → Bool
converts (Some (T.Int a)) (Some (T.Int b)) = true
converts (Some (T.Pointer t)) (Some (T.Pointer u)) = nat_eq t u
converts (Some (T.Pointer t)) (Some T.VoidPointer) = true
converts (Some T.VoidPointer) (Some (T.Pointer t)) = true
converts (Some T.VoidPointer) (Some T.VoidPointer) = true
converts (Some (T.Function g)) (Some (T.Function h)) = nat_eq g h
converts _ _ = false

-- what a cast converts: integers, and `void *` to and from other object pointers
abbrev pub casts : Option Ty → Option Ty → Bool
casts (Some (T.Int a)) (Some (T.Int b)) = true
casts (Some (T.Pointer t)) (Some T.VoidPointer) = true
casts (Some T.VoidPointer) (Some (T.Pointer t)) = true
casts _ _ = false

-- at most so many stars over an integer, a struct or a union, or over void
abbrev pub is_starred : Parts → ℕ → Option Ty → Bool
is_starred p n (Some (T.Int kind)) = true
is_starred p n (Some (T.Struct s)) = true
is_starred p n (Some (T.Union u)) = true
is_starred p (suc n) (Some T.VoidPointer) = true
is_starred p (suc n) (Some (T.Pointer t)) = is_starred p n (ty p t)
is_starred p _ _ = false

-- at most so many stars over a function pointer
abbrev pub is_function_starred : Parts → ℕ → Option Ty → Bool
is_function_starred p n (Some (T.Function g)) = true
is_function_starred p (suc n) (Some (T.Pointer t)) = is_function_starred p n (ty p t)
is_function_starred p _ _ = false

abbrev pub has_stars : Parts → ℕ → Option Ty → Bool
has_stars p n t = is_starred p n t || is_function_starred p n t

-- the stars that a text may write
abbrev pub greatest_stars : ℕ
greatest_stars = 8

-- a type that a text names by words and stars alone, as in a cast or a `sizeof`
abbrev pub is_named : Parts → ℕ → Bool
is_named p t = is_starred p greatest_stars (ty p t)

abbrev pub greatest_params : ℕ
greatest_params = 64

-- a result is none, or a scalar that words and stars name
abbrev pub is_result : Parts → Option ℕ → Bool
is_result p None = true
is_result p (Some t) = is_named p t && is_scalar (ty p t)

abbrev pub signature_is_declared : (ℕ → Bool) → Parts → Option Signature → Bool
signature_is_declared is_param p None = false
signature_is_declared is_param p (Some g) =
    is_result p g.result && (nat_le (length g.params) greatest_params && list_all is_param g.params)

-- A type by which a text with this room declares something that is no array, where room is 65 less the constructs that are
-- open: a named type, or a pointer to a function whose parameters, in one more construct, are such scalars, or `void`
abbrev pub is_declared : Parts → ℕ → Option Ty → Bool
is_declared p zero t = false
is_declared p (suc room) (Some (T.Function g)) =
    nat_lt 0 room && signature_is_declared (λ u. is_scalar (ty p u) && is_declared p room (ty p u)) p (slice_get p.signatures g)
is_declared p (suc room) t = is_starred p greatest_stars t

-- the type of a local or of a parameter in a text with this room
abbrev pub is_declared_scalar : Parts → ℕ → ℕ → Bool
is_declared_scalar p room t = is_scalar (ty p t) && is_declared p room (ty p t)

abbrev pub is_declared_object_in : Parts → ℕ → Option Ty → Bool
is_declared_object_in p room (Some (T.Array u n)) = is_declared p room (ty p u)
is_declared_object_in p room t = is_declared p room t

-- the type of a global, a field or a member, which may be an array
abbrev pub is_declared_object : Parts → ℕ → ℕ → Bool
is_declared_object p room t = is_declared_object_in p room (ty p t)
