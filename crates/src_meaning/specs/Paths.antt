-- Parts of values, by paths.
use Rattle.std.specs.Prelude.{ℕ, nat_eq, if◌then◌else◌, List, [], ◌∷◌, map, replicate, Option, Some, None, slice_get, slice_set, pos}
use Rattle.lu_spec.specs.Then.{then_option}
use Rattle.c_types.specs.declared.parts.Parts.{Parts}
use Rattle.c_types.specs.declared.parts.FieldDef.{FieldDef}
use Rattle.c_types.specs.declared.parts.Ty.{Ty}
use Rattle.c_types.specs.declared.parts.Ty.TheVariants.{Int as Int_type, Pointer as Pointer_type, VoidPointer as VoidPointer_type, Function as Function_type, Struct as Struct_type, Union as Union_type, Array as Array_type}
use Rattle.c_types.specs.declared.path.Step.{Step}
use Rattle.c_types.specs.declared.path.Step.TheVariants.{Index, Field, Member}
use Rattle.c_types.specs.Tables.{fields_of, members_of}
use Rattle.c_types.specs.Recursion.{by_type}
use Rattle.src_tree.specs.declared.value.Value.{Value, out-Value, Int, Null, Struct, Array, Union}
use Rattle.src_tree.specs.declared.value.Value.TheOpen as V

-- one level of a value
abbrev pub Layer : Type 0
Layer = V.Value-F Value

-- the part to which a step leads; of a union only the active member
abbrev pub part_in : Layer → Step → Option Value
part_in (V.Struct fields) (Field k) = slice_get fields k
part_in (V.Array items) (Index k) = slice_get items k
part_in (V.Union active body) (Member k) = if nat_eq k active then Some body else None
part_in _ _ = None

-- the value with another part there
abbrev pub with_part_in : Layer → Step → Value → Option Value
with_part_in (V.Struct fields) (Field k) part = Some (Struct (slice_set fields k part))
with_part_in (V.Array items) (Index k) part = Some (Array (slice_set items k part))
with_part_in (V.Union active body) (Member k) part = Some (Union k part)
with_part_in _ _ part = None

-- the part at a path
abbrev pub part_at : Value → List Step → Option Value
part_at v [] = Some v
part_at v (s ∷ path) = then_option (part_in (out-Value v) s) (λ part. part_at part path)

-- the value with another part at a path
abbrev pub with_part : Value → List Step → Value → Option Value
with_part v [] new = Some new
with_part v (s ∷ path) new =
    then_option (part_in (out-Value v) s) (λ part. then_option (with_part part path new) (with_part_in (out-Value v) s))

-- the part of an object, whose paths begin with an index
abbrev pub element_part : List Value → List Step → Option Value
element_part elements (Index k ∷ path) = then_option (slice_get elements k) (λ v. part_at v path)
element_part elements _ = None

-- the elements of the object with another part at a path
abbrev pub with_element_part : List Value → List Step → Value → Option (List Value)
with_element_part elements (Index k ∷ path) new =
    then_option (slice_get elements k) (λ v. then_option (with_part v path new) (λ changed. Some (slice_set elements k changed)))
with_element_part elements _ new = None

-- a union with its first member
abbrev pub first_member : (ℕ → Value) → List FieldDef → Value
first_member zeros [] = Null
first_member zeros (m ∷ ms) = Union 0 (zeros m.ty)

abbrev pub zero_step : Parts → (ℕ → Value) → Ty → Value
zero_step p zeros (Int_type kind) = Int (pos 0)
zero_step p zeros (Pointer_type t) = Null
zero_step p zeros VoidPointer_type = Null
zero_step p zeros (Function_type g) = Null
zero_step p zeros (Struct_type s) = Struct (map (λ f. zeros f.ty) (fields_of p s))
zero_step p zeros (Union_type u) = first_member zeros (members_of p u)
zero_step p zeros (Array_type t n) = Array (replicate n (zeros t))

-- the zero value of a type
abbrev pub zero_of : Parts → ℕ → Value
zero_of p t = by_type p (zero_step p) Null t
