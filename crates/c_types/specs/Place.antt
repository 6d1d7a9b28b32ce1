-- Paths and places; offsets are in bytes.
use Rattle.std.specs.Prelude.{◌≡◌, ℕ, ◌+◌, ◌*◌, Bool, true, false, nat_lt, if◌then◌else◌, List, [], ◌∷◌, Option, Some, None, IsSome, slice_get}
use Rattle.std.specs.List.{list_any}
use Rattle.std.specs.Option.{option_map, option_map_or}
use Rattle.lu_spec.specs.Then.{then_option}
use Rattle.c_types.specs.declared.parts.Ty.{Ty}
use Rattle.c_types.specs.declared.parts.Ty.TheVariants.{Struct, Union, Array}
use Rattle.c_types.specs.declared.parts.Parts.{Parts}
use Rattle.c_types.specs.declared.path.Place.{Place}
use Rattle.c_types.specs.declared.path.Step.{Step}
use Rattle.c_types.specs.declared.path.Step.TheVariants.{Index, Field, Member}
use Rattle.c_types.specs.Tables.{fields_of, members_of}
use Rattle.c_types.specs.Layout.{size_of, field_offset, member_offset}

abbrev pub place : ℕ → ℕ → Place
place ty offset = record { ty = ty; offset = offset }

abbrev pub shifted : ℕ → Place → Option Place
shifted offset to = Some (place to.ty (offset + to.offset))

-- the part of a type to which a step leads, if the type has it
abbrev pub step_place : Parts → Option Ty → Step → Option Place
step_place p (Some (Struct s)) (Field k) =
    option_map (λ f. place f.ty (field_offset p s k)) (slice_get (fields_of p s) k)
step_place p (Some (Union u)) (Member k) =
    option_map (λ f. place f.ty (member_offset p u)) (slice_get (members_of p u) k)
step_place p (Some (Array t n)) (Index i) = if nat_lt i n then Some (place t (i * size_of p t)) else None
step_place p _ _ = None

-- the place in a type to which a path leads, if it is a path of the type; its offset is the sum of its steps
abbrev pub path_place : Parts → ℕ → List Step → Option Place
path_place p t [] = Some (place t 0)
path_place p t (s ∷ path) =
    then_option (step_place p (slice_get p.types t) s) (λ to. then_option (path_place p to.ty path) (shifted to.offset))

abbrev pub IsPathOf : Parts → ℕ → List Step → Type 0
IsPathOf p t path = IsSome (path_place p t path)

abbrev pub path_offset : Parts → ℕ → List Step → ℕ
path_offset p t path = option_map_or (λ to. to.offset) (path_place p t path) 0

abbrev pub path_type : Parts → ℕ → List Step → ℕ
path_type p t path = option_map_or (λ to. to.ty) (path_place p t path) t

-- the place in an object of so many elements: its path begins with an index
abbrev pub object_place : Parts → ℕ → ℕ → List Step → Option Place
object_place p elem count (Index i ∷ path) =
    if nat_lt i count then then_option (path_place p elem path) (shifted (i * size_of p elem)) else None
object_place p elem count _ = None

abbrev pub is_member : Step → Bool
is_member (Member k) = true
is_member _ = false

abbrev pub IsOutsideUnions : List Step → Type 0
IsOutsideUnions path = list_any is_member path ≡ false

-- the path leads to a place of type `want` at that offset of the object, outside unions
pub record IsPlaceAt (p : Parts) (elem count offset want : ℕ) (path : List Step) : Type 0 where
  pub leads : object_place p elem count path ≡ Some (place want offset)
  pub outside : IsOutsideUnions path

-- no path does
abbrev pub HasNoPlaceAt : Parts → ℕ → ℕ → ℕ → ℕ → Type 0
HasNoPlaceAt p elem count offset want = (path : List Step) → IsPlaceAt p elem count offset want path → ⊥

-- a path does
abbrev pub HasPlaceAt : Parts → ℕ → ℕ → ℕ → ℕ → Type 0
HasPlaceAt p elem count offset want = (path : List Step) × IsPlaceAt p elem count offset want path
