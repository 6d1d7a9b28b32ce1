-- A table of types that is being made: its types, each once, with their sizes and alignments.
use Rattle.std.specs.Prelude.{ℕ, zero, suc, List, [], ◌∷◌, ◌++◌, if◌then◌else◌}
use Rattle.std.specs.List.{list_any, position_or_len}
use Rattle.c_types.specs.declared.parts.Ty.{Ty}
use Rattle.c_types.specs.declared.parts.Ty.TheVariants as T
use Rattle.c_types.specs.declared.parts.Parts.{Parts}
use Rattle.c_types.specs.declared.shape.Shape.{Shape}
use Rattle.c_types.specs.Layout.{Shapes, shape}
use Rattle.c_types.specs.Rounds.{shape_at}
use Rattle.c_check_scope.specs.Numbers.{same_type}
use Rattle.c_check_table.specs.declared.draft.Draft.{Draft}

-- the number of a type; where it isn't there, the number that it would have
abbrev pub place_of : List Ty → Ty → ℕ
place_of types ty = position_or_len (same_type ty) types

-- with pointers of so many bytes
abbrev pub nothing : ℕ → Draft
nothing pointer = record { pointer = pointer; types = []; shapes = []; signatures = []; structs = []; unions = [] }

-- a type of this size and alignment, at the end, if it isn't there
unfoldable pub with_type : Draft → Ty → Shape → Draft
with_type d ty s =
    if list_any (same_type ty) d.types then d else record d { types = d.types ++ (ty ∷ []); shapes = d.shapes ++ (s ∷ []) }

abbrev pub pointer_shape : Draft → Shape
pointer_shape d = shape d.pointer d.pointer

-- so many pointer types over the type of a number
abbrev pub with_pointers : Draft → ℕ → ℕ → Draft
with_pointers d zero t = d
with_pointers d (suc n) t = with_pointers (with_type d (T.Pointer t) (pointer_shape d)) n (place_of d.types (T.Pointer t))

-- a type with the pointer types that have at most so many stars over it
unfoldable pub with_stars : Draft → ℕ → Ty → Shape → Draft
with_stars d n ty s = with_pointers (with_type d ty s) n (place_of d.types ty)

-- the sizes and alignments of the types so far; a struct or union has its own from its declaration on
abbrev pub shapes : Draft → Shapes
shapes d = shape_at d.shapes

-- the table
abbrev pub parts_of : Draft → Parts
parts_of d = record { pointer = d.pointer; types = d.types; structs = d.structs; unions = d.unions; signatures = d.signatures }
