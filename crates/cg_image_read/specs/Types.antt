-- The types of an image, and the lists that stand with them.
use Rattle.std.specs.Prelude.{ℕ, zero, suc, Bool, true, List, [], ◌∷◌, length, drop, Option, Some, None, Result, Ok, Err, nat_lt, ◌==◌, if◌then◌else◌}
use Rattle.lu_base.specs.declared.limits.TheConstants.{ENTRIES, PARAMETERS}
use Rattle.c_types.specs.declared.parts.IntKind.{IntKind}
use Rattle.c_types.specs.declared.parts.IntKind.TheVariants.{Char, UChar, Short, UShort, Int as Int_kind, UInt, LongLong, ULongLong}
use Rattle.c_types.specs.declared.parts.Ty.{Ty}
use Rattle.c_types.specs.declared.parts.Ty.TheVariants.{Int, Pointer, VoidPointer, Function, Struct, Union, Array}
use Rattle.c_types.specs.declared.parts.FieldDef.{FieldDef}
use Rattle.c_types.specs.declared.parts.TagDef.{TagDef}
use Rattle.c_types.specs.declared.parts.Signature.{Signature}
use Rattle.cg_image.specs.Image.{type_bytes}
use Rattle.cg_image_read.specs.declared.error.ImageError.{ImageError}
use Rattle.cg_image_read.specs.declared.error.ImageError.TheVariants.{Truncated, Table}
use Rattle.cg_image_read.specs.declared.later.Later.{Later}
use Rattle.cg_image_read.specs.declared.later.Later.TheVariants.{Structs, Unions, Signatures}
use Rattle.cg_image_read.specs.Answer.{◌>>=◌}
use Rattle.cg_image_read.specs.Fields.{Part, place, number_at, ranged_at, entry_at, items_at}

abbrev pub kind_of : ℕ → Option IntKind
kind_of n =
    if n == 0 then Some Char
    else if n == 1 then Some UChar
    else if n == 2 then Some Short
    else if n == 3 then Some UShort
    else if n == 4 then Some Int_kind
    else if n == 5 then Some UInt
    else if n == 6 then Some LongLong
    else if n == 7 then Some ULongLong
    else None

abbrev pub kind_in : ℕ → Option IntKind → List ℕ → Part Ty
kind_in at None rest = Err (Table at)
kind_in at (Some kind) rest = Ok (Int kind, rest)

unfoldable pub kind_at : ℕ → List ℕ → Part Ty
kind_at at [] = Err Truncated
kind_at at (n ∷ rest) = kind_in at (kind_of n) rest

-- a type made of the number that was read
abbrev pub made : (ℕ → Ty) → Part ℕ → Part Ty
made type n = n >>= λ x. Ok (type x.0, x.1)

unfoldable pub array_at : ℕ → ℕ → List ℕ → Part Ty
array_at types at bytes = do
  element ← entry_at types at bytes
  count ← number_at element.1
  Ok (Array element.0 count.0, count.1)

-- the parts of a type by its tag, where there are so many types; a number of a later list is any number yet
unfoldable pub tagged_at : ℕ → ℕ → ℕ → List ℕ → Part Ty
tagged_at types at tag rest =
    if tag == 0 then kind_at at rest
    else if tag == 1 then made Pointer (entry_at types at rest)
    else if tag == 2 then Ok (VoidPointer, rest)
    else if tag == 3 then made Function (number_at rest)
    else if tag == 4 then made Struct (number_at rest)
    else if tag == 5 then made Union (number_at rest)
    else if tag == 6 then array_at types at rest
    else Err (Table at)

unfoldable pub type_at : ℕ → ℕ → List ℕ → Part Ty
type_at types at [] = Err Truncated
type_at types at (tag ∷ rest) = tagged_at types at tag rest

-- a type's number in that list, if it has one, is one of so many
abbrev pub knows : Later → ℕ → Ty → Bool
knows Structs count (Struct s) = nat_lt s count
knows Unions count (Union u) = nat_lt u count
knows Signatures count (Function g) = nat_lt g count
knows _ count _ = true

-- the place of the first type that a test refuses, of types that begin there
unfoldable pub first_refused : (Ty → Bool) → ℕ → List ℕ → List Ty → Option ℕ
first_refused test end bytes [] = None
first_refused test end bytes (t ∷ ts) =
    if test t then first_refused test end (drop (length (type_bytes t)) bytes) ts else Some (place end bytes)

-- going on where no place is refused
abbrev pub unless_refused : {A : Type 0} → Option ℕ → Result A ImageError → Result A ImageError
unless_refused None read = read
unless_refused (Some at) read = Err (Table at)

unfoldable pub field_at : ℕ → ℕ → ℕ → List ℕ → Part FieldDef
field_at names types at bytes = do
  name ← entry_at names at bytes
  ty ← entry_at types at name.1
  Ok (record { name = name.0; ty = ty.0 }, ty.1)

-- a struct or union; its fields belong to it as an item
unfoldable pub tag_at : ℕ → ℕ → ℕ → List ℕ → Part TagDef
tag_at names types at bytes = do
  name ← entry_at names at bytes
  count ← ranged_at 0 ENTRIES at name.1
  fields ← items_at (λ _ _. field_at names types at) 0 [] count.0 count.1
  Ok (record { tag = name.0; fields = fields.0 }, fields.1)

-- 0 is void
abbrev pub result_in : ℕ → Option ℕ
result_in zero = None
result_in (suc t) = Some t

unfoldable pub signature_at : ℕ → ℕ → List ℕ → Part Signature
signature_at types at bytes = do
  answer ← ranged_at 0 types at bytes
  count ← ranged_at 0 PARAMETERS at answer.1
  params ← items_at (λ _ _. entry_at types at) 0 [] count.0 count.1
  Ok (record { result = result_in answer.0; params = params.0 }, params.1)
