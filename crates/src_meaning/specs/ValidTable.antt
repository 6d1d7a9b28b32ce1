-- What the table of types of a valid program has.
use Rattle.std.specs.Prelude.{ℕ, ◌+◌, Bool, true, false, ◌&&◌, ◌||◌, not, nat_eq, List, [], ◌∷◌}
use Rattle.std.specs.List.{list_all, list_any}
use Rattle.c_types.specs.declared.parts.IntKind.{IntKind}
use Rattle.c_types.specs.declared.parts.IntKind.TheVariants as K
use Rattle.c_types.specs.declared.parts.Ty.{Ty}
use Rattle.c_types.specs.declared.parts.Ty.TheVariants as T
use Rattle.c_types.specs.declared.parts.Parts.{Parts}
use Rattle.c_types.specs.Numbering.{is_array}
use Rattle.src_meaning.specs.declared.validity.Kind.{Kind}
use Rattle.src_meaning.specs.declared.validity.Kind.TheVariants.{Struct, Union, FunctionPointer, Pointer}
use Rattle.src_meaning.specs.ValidTypes.{ty, has_stars, greatest_stars}

abbrev pub same_kind : IntKind → IntKind → Bool
same_kind K.Char K.Char = true
same_kind K.UChar K.UChar = true
same_kind K.Short K.Short = true
same_kind K.UShort K.UShort = true
same_kind K.Int K.Int = true
same_kind K.UInt K.UInt = true
same_kind K.LongLong K.LongLong = true
same_kind K.ULongLong K.ULongLong = true
same_kind _ _ = false

abbrev pub is_of_kind : IntKind → Ty → Bool
is_of_kind kind (T.Int k) = same_kind k kind
is_of_kind kind _ = false

-- a type of a kind, by its number
abbrev pub is_of : Kind → ℕ → Ty → Bool
is_of Struct n (T.Struct k) = nat_eq k n
is_of Union n (T.Union k) = nat_eq k n
is_of FunctionPointer n (T.Function k) = nat_eq k n
is_of Pointer n (T.Pointer k) = nat_eq k n
is_of _ n _ = false

abbrev pub is_void_pointer : Ty → Bool
is_void_pointer T.VoidPointer = true
is_void_pointer _ = false

abbrev pub has_void_pointer : Parts → Bool
has_void_pointer p = list_any is_void_pointer p.types

abbrev pub has_kind : Parts → IntKind → Bool
has_kind p kind = list_any (is_of_kind kind) p.types

-- all integer types
abbrev pub has_kinds : Parts → Bool
has_kinds p =
    has_kind p K.Char
    && (has_kind p K.UChar
    && (has_kind p K.Short
    && (has_kind p K.UShort && (has_kind p K.Int && (has_kind p K.UInt && (has_kind p K.LongLong && has_kind p K.ULongLong))))))

abbrev pub has : Parts → Kind → ℕ → Bool
has p kind n = list_any (is_of kind n) p.types

-- the test passes for each number from k on, one for each entry
abbrev pub all_from : {A : Type 0} → (ℕ → Bool) → ℕ → List A → Bool
all_from test k [] = true
all_from test k (x ∷ xs) = test k && all_from test (k + 1) xs

-- a type with fewer than nine stars has its pointer type in the table
abbrev pub has_pointer : Parts → ℕ → Bool
has_pointer p t = not (has_stars p greatest_stars (ty p t)) || has p Pointer t

abbrev pub is_no_array_pointer : Parts → Ty → Bool
is_no_array_pointer p (T.Pointer t) = not (is_array (ty p t))
is_no_array_pointer p _ = true

-- all integer types, each struct and union, `void *`, the function pointer type of each signature, and each pointer
-- type of at most nine stars over one of these; no pointer to an array
abbrev pub has_types : Parts → Bool
has_types p =
    has_kinds p
    && (all_from (has p Struct) 0 p.structs
    && (all_from (has p Union) 0 p.unions
    && (all_from (has p FunctionPointer) 0 p.signatures
    && (has_void_pointer p
    && (all_from (has_pointer p) 0 p.types && list_all (is_no_array_pointer p) p.types)))))
