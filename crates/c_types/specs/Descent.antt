-- The place at an offset by descent: at each type the part that has the byte.
use Rattle.std.specs.Prelude.{ℕ, zero, suc, ◌+◌, ◌-◌, ◌/◌, ◌%◌, Bool, ◌&&◌, nat_eq, nat_lt, if◌then◌else◌, List, [], ◌∷◌, length, Option, Some, None, slice_get}
use Rattle.std.specs.Option.{option_map}
use Rattle.lu_spec.specs.Then.{then_option}
use Rattle.c_types.specs.declared.parts.Ty.{Ty}
use Rattle.c_types.specs.declared.parts.Ty.TheVariants.{Struct, Array}
use Rattle.c_types.specs.declared.parts.FieldDef.{FieldDef}
use Rattle.c_types.specs.declared.parts.Parts.{Parts}
use Rattle.c_types.specs.declared.path.Step.{Step}
use Rattle.c_types.specs.declared.path.Step.TheVariants.{Index, Field}
use Rattle.c_types.specs.declared.descent.Part.{Part}
use Rattle.c_types.specs.Tables.{fields_of}
use Rattle.c_types.specs.Layout.{Shapes, field_start, field_end, shape_of, size_of}

abbrev pub part : Step → ℕ → ℕ → Part
part step ty rest = record { step = step; ty = ty; rest = rest }

-- the field that has the byte at `offset`, among fields that come after `end`, the first of which has number k
abbrev pub part_in_fields : Shapes → ℕ → List FieldDef → ℕ → ℕ → Option Part
part_in_fields known end [] k offset = None
part_in_fields known end (f ∷ fs) k offset =
    if nat_lt offset (field_end known end f) then (if nat_lt offset (field_start known end f) then None else Some (part (Field k) f.ty (offset - field_start known end f))) else part_in_fields known (field_end known end f) fs (k + 1) offset

abbrev pub part_in_array : ℕ → ℕ → ℕ → ℕ → Option Part
part_in_array t size n offset = if nat_lt (offset / size) n then Some (part (Index (offset / size)) t (offset % size)) else None

-- the part of a struct or an array that has the byte at an offset
abbrev pub part_at : Parts → ℕ → Option Ty → Option Part
part_at p offset (Some (Struct s)) = part_in_fields (shape_of p) 0 (fields_of p s) 0 offset
part_at p offset (Some (Array t n)) = part_in_array t (size_of p t) n offset
part_at p offset _ = None

abbrev pub is_here : ℕ → ℕ → ℕ → Bool
is_here t offset want = nat_eq t want && nat_eq offset 0

-- the path to the place of type `want`, by at most so many steps
abbrev pub descend : Parts → ℕ → ℕ → ℕ → ℕ → Option (List Step)
descend p zero t offset want = None
descend p (suc n) t offset want =
    if is_here t offset want then Some [] else then_option (part_at p offset (slice_get p.types t)) (λ q. option_map (λ path. q.step ∷ path) (descend p n q.ty q.rest want))

abbrev pub find_place : Parts → ℕ → ℕ → ℕ → ℕ → Option (List Step)
find_place p elem count offset want =
    then_option (part_in_array elem (size_of p elem) count offset) (λ q. option_map (λ path. q.step ∷ path) (descend p (length p.types) q.ty q.rest want))
