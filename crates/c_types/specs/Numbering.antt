-- Each number names an entry, and a pointer has a size.
use Rattle.std.specs.Prelude.{ℕ, ◌^◌, ◌-◌, Bool, true, false, ◌&&◌, ◌||◌, not, nat_eq, nat_lt, List, length, Option, Some, slice_get}
use Rattle.std.specs.List.{list_all}
use Rattle.std.specs.Option.{option_map_or}
use Rattle.c_types.specs.declared.parts.Ty.{Ty}
use Rattle.c_types.specs.declared.parts.Ty.TheVariants.{Int, Pointer, VoidPointer, Function, Struct, Union, Array}
use Rattle.c_types.specs.declared.parts.TagDef.{TagDef}
use Rattle.c_types.specs.declared.parts.Signature.{Signature}
use Rattle.c_types.specs.declared.parts.Parts.{Parts}

-- a pointer takes 4 or 8 bytes
abbrev pub is_pointer_size : ℕ → Bool
is_pointer_size w = nat_eq w 4 || nat_eq w 8

-- a list may have so many entries
abbrev pub is_countable : {A : Type 0} → List A → Bool
is_countable xs = nat_lt (length xs) (2 ^ 32 - 1)

abbrev pub names_entry : {A : Type 0} → List A → ℕ → Bool
names_entry xs k = nat_lt k (length xs)

abbrev pub is_array : Option Ty → Bool
is_array (Some (Array t n)) = true
is_array _ = false

-- the numbers in a type name entries, and no array's element is an array
abbrev pub type_is_numbered : Parts → Ty → Bool
type_is_numbered p (Int k) = true
type_is_numbered p (Pointer t) = names_entry p.types t
type_is_numbered p VoidPointer = true
type_is_numbered p (Function g) = names_entry p.signatures g
type_is_numbered p (Struct s) = names_entry p.structs s
type_is_numbered p (Union u) = names_entry p.unions u
type_is_numbered p (Array t n) = names_entry p.types t && not (is_array (slice_get p.types t))

abbrev pub tag_is_numbered : Parts → TagDef → Bool
tag_is_numbered p tag = is_countable tag.fields && list_all (λ f. names_entry p.types f.ty) tag.fields

abbrev pub signature_is_numbered : Parts → Signature → Bool
signature_is_numbered p g =
    option_map_or (names_entry p.types) g.result true && (is_countable g.params && list_all (names_entry p.types) g.params)

abbrev pub are_countable : Parts → Bool
are_countable p =
    is_countable p.types && (is_countable p.structs && (is_countable p.unions && is_countable p.signatures))

abbrev pub is_well_numbered : Parts → Bool
is_well_numbered p =
    are_countable p && (list_all (type_is_numbered p) p.types && (list_all (tag_is_numbered p) p.structs && (list_all (tag_is_numbered p) p.unions && (list_all (signature_is_numbered p) p.signatures && is_pointer_size p.pointer))))
